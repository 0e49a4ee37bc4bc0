-- The verdict on a body, by what was found in it: no A4, one, or a second one.
use mathlib.Core.Path.{◌≡◌, refl, ap, sym, ◌∙◌}
use mathlib.Core.Bool.{false}
use mathlib.Core.List.{List}
use Prim.Native.Nat.{ℕ}
use lib.Dec.{eqb}
use borrow.Author.Tests.{ne_eqb}
use Rattle.runs.specs.declared.Run.{Run}
use Rattle.runs.specs.Runs.{tree_in}
use Rattle.contents.specs.Search.{amount, first_run}
use Rattle.contents.specs.declared.Part.{Part}
use Rattle.contents.specs.First.{IsFirst, Lacks}
use Rattle.measures.specs.Verdicts.{none, not_fixed}
use Rattle.dimensions.specs.Dimensions.{verdict_of_items, verdict_of_body, verdict_of}

module _ (s : List ℕ) (r : Run) {n : ℕ} (counted : n ≡ amount 0xA4 (tree_in s r)) where
  pub no-a4 : n ≡ 0 → none ≡ verdict_of_body (tree_in s r)
  unfolding verdict_of_body
  no-a4 zero = let e : amount 0xA4 (tree_in s r) ≡ 0 = sym counted ∙ zero in rw e

  pub second-a4 : (n ≡ 0 → ⊥) → (n ≡ 1 → ⊥) → not_fixed ≡ verdict_of_body (tree_in s r)
  unfolding verdict_of_body
  second-a4 some more =
      let not_none : eqb (amount 0xA4 (tree_in s r)) 0 ≡ false = ne_eqb (amount 0xA4 (tree_in s r)) 0 (λ z. some (counted ∙ z)) in
      let not-one : eqb (amount 0xA4 (tree_in s r)) 1 ≡ false = ne_eqb (amount 0xA4 (tree_in s r)) 1 (λ z. more (counted ∙ z)) in
      rw (not_none, not-one)

  pub one-a4 : n ≡ 1 → (list : Run) → tree_in s list ≡ first_run 0xA4 (tree_in s r) → verdict_of_items (tree_in s list) ≡ verdict_of_body (tree_in s r)
  unfolding verdict_of_body
  one-a4 one list inside = let e : amount 0xA4 (tree_in s r) ≡ 1 = sym counted ∙ one in rw (e, inside)

-- a page without a descriptor has no dimensions
pub no-descriptor : {s : List ℕ} {r : Run} → Lacks s r 0x31 → none ≡ verdict_of (tree_in s r)
unfolding verdict_of_body amount
no-descriptor l = sym (ap verdict_of_body l.tree)

pub descriptor : {s : List ℕ} {r : Run} {p : Part} → IsFirst s r 0x31 p → verdict_of_body (tree_in s p.inner) ≡ verdict_of (tree_in s r)
descriptor f = sym (ap verdict_of_body (f.tree refl))
