-- Portions counted on, row by row.
use mathlib.Core.Path.{◌≡◌, ap, sym, ◌∙◌}
use mathlib.Core.List.{List}
use Prim.Native.Nat.{ℕ, ◌+◌, ◌*◌, ◌<◌, ◌≤◌}
use native.Mathlib.Omega.{arith}
use native.Mathlib.Numerals.{add-one}
use lib.Dec.{eqb}
use lib.ListN.{length}
use borrow.Table.Steps.{cases}
use Rattle.rows.specs.Columns.{kind_at}
use Rattle.elements.specs.Judge.{Element}
use Rattle.letters.specs.Telling.{RowsTell, element_at}
use Rattle.order.specs.PassA.{count_if}
use Rattle.owners.proofs.Telling.{kind-told, lists-told, meetable}
use Rattle.order_a.specs.Turns.{counts_in, before, Reaches}
use Rattle.order_a.proofs.Slots.{before_more}

-- what was counted up to a row
pub record Counted (s rows : List ℕ) (n kind row base at total : ℕ) : Type 0 where
  pub small : total ≤ 64 * at
  pub is : (elements : List Element) → RowsTell s rows n elements → base ≡ before kind elements row → total ≡ before kind elements at

pub counted_none : (s rows : List ℕ) (n kind row base : ℕ) → base ≤ 64 * row → Counted s rows n kind row base row base
counted_none s rows n kind row base l = record { small = l; is = λ elements ready e. e }

pub counts-few : {s rows : List ℕ} {n : ℕ} {elements : List Element} → RowsTell s rows n elements → (kind j : ℕ) → j < n → counts_in s rows kind j ≤ 64
unfolding counts_in
counts-few {s} {rows} told kind j l =
    let few = (meetable told j l).few in
    cases (eqb (kind_at rows j) kind) (λ t. rw t few) (λ t. rw t (omega arith))

module _ {s rows : List ℕ} {n kind row base at total : ℕ} {of_letter : List Element} (c : Counted s rows n kind row base at total)
    (told : RowsTell s rows n of_letter) (l : at < n) where
  counts-is : (elements : List Element) → RowsTell s rows n elements → counts_in s rows kind at ≡ count_if (eqb (element_at elements at).kind kind)
      (length (element_at elements at).portions)
  unfolding counts_in
  counts-is elements ready = rw (kind-told ready at l, lists-told ready at l)

  pub counted-more : Counted s rows n kind row base (at + 1) (total + counts_in s rows kind at)
  counted-more =
      record {
        small = omega (arith, c.small, counts-few told kind at l);
        is = λ elements ready e.
            let i : at < length elements = omega (arith, ready.counted) in
            ap (λ (m : ℕ). m + counts_in s rows kind at) (c.is elements ready e) ∙ ap (λ (m : ℕ). before kind elements at + m) (counts-is elements ready)
            ∙ sym (before_more kind elements at i) ∙ ap (before kind elements) (sym (add-one at));
      }

pub counted-all : {s rows : List ℕ} {n kind row base at total to : ℕ} → Counted s rows n kind row base at total → at ≡ to
    → Reaches s rows n kind row base to total
counted-all {s} {rows} {n} {kind} {row} {base} {at} {total} c e =
    record { small = omega (arith, c.small); is = λ elements ready b. c.is elements ready b ∙ ap (before kind elements) e }
