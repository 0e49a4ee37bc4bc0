-- The items of an opening, one after the other: the first with the octet is the run's, and if neither has it, the run has none.
use mathlib.Core.Path.{◌≡◌}
use mathlib.Core.List.{List}
use Prim.Native.Nat.{ℕ, ◌<◌, ◌≤◌}
use native.Mathlib.Omega.{arith}
use Rattle.runs.specs.declared.Run.{Run}
use Rattle.contents.specs.declared.Opening.{Opening}
use Rattle.contents.specs.First.{IsFirst, Lacks}
use Rattle.contents.specs.Opening.{Opens, nothing, single, several, ends_here, goes_on}
use Rattle.contents.proofs.Firsts.{holds-before, lacks-before, lacks-at-end, alike-after, holds-here}

module _ (octet : ℕ) (o : Opening) (s : List ℕ) (r : Run) where
  pub one_holds : 0 < o.count → o.one.code ≡ octet → Opens s r o → IsFirst s r octet o.one
  one_holds some h (nothing z e) = absurd (omega arith)
  one_holds some h (single rest z m e) = holds-here s r o.one rest m octet h
  one_holds some h (several rest last m n k) = holds-here s r o.one rest m octet h

  pub two-holds : 1 < o.count → (o.one.code ≡ octet → ⊥) → o.two.code ≡ octet
      → Opens s r o → IsFirst s r octet o.two
  two-holds more h g (nothing z e) = absurd (omega arith)
  two-holds more h g (single rest z m e) = absurd (omega arith)
  two-holds more h g (several rest last m n k) =
      holds-before (alike-after s r o.one rest m octet h) (holds-here s rest o.two last n octet g)

  pub neither-holds : (0 < o.count → o.one.code ≡ octet → ⊥) → (1 < o.count → o.two.code ≡ octet → ⊥)
      → Opens s r o → o.count ≤ 2 → Lacks s r octet
  neither-holds h g (nothing z e) l = lacks-at-end s octet r e
  neither-holds h g (single rest z m e) l =
      lacks-before (alike-after s r o.one rest m octet (h (omega arith))) (lacks-at-end s octet rest e)
  neither-holds h g (several rest last m n (ends_here z e)) l =
      lacks-before (alike-after s r o.one rest m octet (h (omega arith)))
      (lacks-before (alike-after s rest o.two last n octet (g (omega arith))) (lacks-at-end s octet last e))
  neither-holds h g (several rest last m n (goes_on third beyond z k)) l = absurd (omega arith)
