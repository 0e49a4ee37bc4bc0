-- What the rows of an accepted letter tell of an element: its kind, whether it has an identifier, how many portions it lists, and that these can
-- be met. And what is known while they are met.
use mathlib.Core.Path.{◌≡◌, ap, sym, ◌∙◌}
use mathlib.Core.Bool.{true}
use mathlib.Core.List.{List}
use Prim.Native.Nat.{ℕ, suc, ◌+◌, ◌<◌}
use native.Mathlib.Omega.{arith}
use lib.ListN.{length}
use lib.Dec.{ltb}
use borrow.Table.Steps.{cases}
use Rattle.octets.specs.Walk.{no_items}
use Rattle.runs.specs.declared.Run.{Run}
use Rattle.runs.specs.Runs.{items_of, tree_in, Fine, Meeting}
use Rattle.portions.specs.Portions.{most_portions, all_portions, values}
use Rattle.portions.proofs.Meetings.{values-next, portions-left, values-end}
use Rattle.rows.specs.Columns.{identifier_column, kind_at, first_at, past_at}
use Rattle.elements.specs.Judge.{Element}
use Rattle.letters.specs.Telling.{name_in, Tells, RowsTell, element_at}
use Rattle.rows.specs.Columns.{span_at, there, portions_at}
use Rattle.reading.proofs.Listing.{element_there, element-told}
use Rattle.reading.proofs.OnePlace.{few-portions}
use Rattle.order.specs.Represents.{present, named}
use Rattle.owners.specs.Owner.{listed_at, Meetable}

module _ {s rows : List ℕ} {n : ℕ} {elements : List Element} (ready : RowsTell s rows n elements) (j : ℕ) (below : j < n) where
  abbrev told : Tells s rows j (element_at elements j)
  told = element-told s rows n j below elements ready

  pub kind-told : kind_at rows j ≡ (element_at elements j).kind
  kind-told = told.kind

  pub named-told : there (span_at rows identifier_column j) ≡ named (element_at elements j)
  named-told =
      sym (ap present told.identifier ∙ by_test)
    where
      by_test : present (name_in s (span_at rows identifier_column j)) ≡ there (span_at rows identifier_column j)
      by_test = cases (ltb (first_at rows identifier_column j) (past_at rows identifier_column j)) (λ t. rw t) (λ t. rw t)

  pub lists-told : length (listed_at s rows j) ≡ length (element_at elements j).portions
  lists-told = ap length told.portions

  pub meetable : Meetable s rows j
  meetable =
      let few = few-portions (element_at elements j) (ready.apart.spelt j (element_at elements j) (element_there s rows n j below elements ready)) in
      record { fine = told.portions_fine; only_portions = told.only_portions; few = omega (arith, lists-told) }

-- so many portions of a row were met, and these are left
pub record Left (s rows : List ℕ) (j : ℕ) (left : Run) (met : ℕ) : Type 0 where
  pub fine : Fine s left
  pub only_portions : all_portions (tree_in s left) ≡ true
  pub counted : met + length (values (tree_in s left)) ≡ length (listed_at s rows j)

pub left-all : {s rows : List ℕ} {j : ℕ} → Meetable s rows j → Left s rows j (portions_at rows j) 0
left-all m = record { fine = m.fine; only_portions = m.only_portions; counted = omega arith }

module _ {s rows : List ℕ} {j : ℕ} {left : Run} {k : ℕ} (l : Left s rows j left k) where
  pub left-none : items_of s left ≡ no_items → k ≡ length (listed_at s rows j)
  left-none e = let z = ap length (values-end s left e) in omega (arith, l.counted)

  module _ {code first past : ℕ} {inner rest : Run} (met : Meeting s left code first past inner rest) where
    pub one_fewer : length (values (tree_in s left)) ≡ suc (length (values (tree_in s rest)))
    one_fewer = ap length (values-next met l.only_portions)

    pub left-more : Left s rows j rest (k + 1)
    left-more = record { fine = met.rest_fine; only_portions = portions-left met l.only_portions; counted = omega (arith, one_fewer, l.counted) }

    pub left-small : Meetable s rows j → k < most_portions
    left-small m = omega (arith, one_fewer, l.counted, m.few)
