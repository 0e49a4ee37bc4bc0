-- What an item that is met says of the run: whether it is a portion, and then its value and what the rest says.
use mathlib.Core.Path.{◌≡◌, refl, ap, sym, ◌∙◌}
use mathlib.Core.Bool.{true, false, false≢true}
use mathlib.Core.List.{List, [], ◌∷◌}
use Prim.Native.Nat.{ℕ, ◌<◌}
use borrow.Author.Tests.{ne_eqb, eqb-true, eqb-false}
use borrow.Table.Steps.{cases}
use lib.Dec.{eqb}
use lib.Seq.{slice}
use Rattle.headers.specs.Head.{constructed, type_field}
use Rattle.octets.specs.Walk.{Items, no_items, item}
use Rattle.tree.specs.Tree.{Tree, formed, plain}
use Rattle.runs.specs.declared.Run.{Run}
use Rattle.runs.specs.Runs.{items_of, tree_in, definite_run, all_primitive, Fine, Meeting}
use Rattle.runs.proofs.Laws.{tree-meets, tree-none}
use Rattle.runs.proofs.Again.{again-fine, again-tree}
use Rattle.contents.proofs.Firsts.{is_field}
use Rattle.portions.specs.Portions.{all_portions, values}

-- an item with an octet, its value, the run inside it and what follows
module _ (code : ℕ) (value : List ℕ) (inside after : Tree) where
  pub portions-formed : code ≡ 0x12 → all_portions (formed (constructed code) (type_field code) value inside after) ≡ all_portions after
  unfolding all_portions
  portions-formed e = rw e

  pub others-formed : (code ≡ 0x12 → ⊥) → all_portions (formed (constructed code) (type_field code) value inside after) ≡ false
  unfolding all_portions
  others-formed n = cases (constructed code) (λ c. rw c) (λ c. rw (c, is_field 0x12 code, ne_eqb code 0x12 n))

  pub values-formed : code ≡ 0x12 → values (formed (constructed code) (type_field code) value inside after) ≡ value ∷ values after
  unfolding values
  values-formed e = rw e

  -- if all are portions, the first is
  pub portion-formed : all_portions (formed (constructed code) (type_field code) value inside after) ≡ true → code ≡ 0x12
  portion-formed t =
      cases (eqb code 0x12) (λ e. eqb-true code 0x12 e) (λ e. absurd (false≢true (sym (others-formed (eqb-false code 0x12 e)) ∙ t)))

-- an item that is met, and the rest of the run
module _ {s : List ℕ} {r : Run} {code first past : ℕ} {inner rest : Run} (met : Meeting s r code first past inner rest) where
  pub portions-met : code ≡ 0x12 → all_portions (tree_in s r) ≡ all_portions (tree_in s rest)
  portions-met e = ap all_portions (tree-meets met) ∙ portions-formed code (slice first past s) (tree_in s inner) (tree_in s rest) e

  pub others-met : (code ≡ 0x12 → ⊥) → all_portions (tree_in s r) ≡ false
  others-met n = ap all_portions (tree-meets met) ∙ others-formed code (slice first past s) (tree_in s inner) (tree_in s rest) n

  pub values-met : code ≡ 0x12 → values (tree_in s r) ≡ slice first past s ∷ values (tree_in s rest)
  values-met e = ap values (tree-meets met) ∙ values-formed code (slice first past s) (tree_in s inner) (tree_in s rest) e

  -- of a run of portions, the next one is met, and portions are left
  module _ (all : all_portions (tree_in s r) ≡ true) where
    pub portion-next : code ≡ 0x12
    portion-next = portion-formed code (slice first past s) (tree_in s inner) (tree_in s rest) (sym (ap all_portions (tree-meets met)) ∙ all)

    pub values-next : values (tree_in s r) ≡ slice first past s ∷ values (tree_in s rest)
    values-next = values-met portion-next

    pub portions-left : all_portions (tree_in s rest) ≡ true
    portions-left = sym (portions-met portion-next) ∙ all

-- where no item is met there is no portion, and no other item
module _ (s : List ℕ) (r : Run) (end : items_of s r ≡ no_items) where
  pub portions-end : all_portions (tree_in s r) ≡ true
  unfolding all_portions
  portions-end = ap all_portions (tree-none s r end)

  pub values-end : values (tree_in s r) ≡ []
  unfolding values
  values-end = ap values (tree-none s r end)

-- portions are primitive
pub portions-primitive : (s : List ℕ) (items : Items) → all_portions (plain s items) ≡ true → all_primitive items ≡ true
portions-primitive s no_items all = refl
portions-primitive s (item at code first past inside after) all =
    let e : code ≡ 0x12 = portion-formed code (slice first past s) (plain s inside) (plain s after) all in
    let left : all_portions (plain s after) ≡ true = sym (portions-formed code (slice first past s) (plain s inside) (plain s after) e) ∙ all in
    rw e (portions-primitive s after left)

-- so the portions inside an item can be read again by the bounds of its value alone
module _ {s : List ℕ} {r : Run} {code first past : ℕ} {inner rest : Run} (met : Meeting s r code first past inner rest)
    (c : constructed code ≡ true) (all : all_portions (tree_in s inner) ≡ true) (levels : ℕ) (deep : 0 < inner.room → 0 < levels) where
  primitive : all_primitive (items_of s inner) ≡ true
  primitive = portions-primitive s (items_of s inner) all

  pub portions_fine : Fine s (definite_run first past levels)
  portions_fine = again-fine met c primitive levels deep

  pub portions-again : tree_in s (definite_run first past levels) ≡ tree_in s inner
  portions-again = again-tree met c primitive levels deep
