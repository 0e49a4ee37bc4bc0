-- What is within 9240 by 12400, or turned, is within 9920 by 14030, or turned.
use mathlib.Core.Path.{◌≡◌, refl}
use mathlib.Core.Logic.{◌⊎◌, inl, inr}
use mathlib.Core.Bool.{Bool, true, false, ◌&&◌, ◌||◌, false≢true}
use Prim.Native.Nat.{ℕ, ◌≤◌}
use native.Mathlib.Omega.{arith}
use lib.Dec.{leb}
use borrow.Author.Tests.{leb-true, le-leb}
use Rattle.measures.specs.Verdicts.{not_over, within, non_essential_pairs}
use Rattle.promises_pm1.specs.Promises.{EssentialWithin}

both : (a b : Bool) → (a && b) ≡ true → (a ≡ true) × (b ≡ true)
both true b e = (refl, e)
both false b e = absurd (false≢true e)

either : (a b : Bool) → (a || b || false) ≡ true → (a ≡ true) ⊎ (b ≡ true)
either true b e = inl refl
either false true e = inr refl
either false false e = absurd (false≢true e)

second : (a c : Bool) → (a || true || c) ≡ true
second true c = refl
second false c = refl

module _ (h v : ℕ) where
  bounded : (x y : ℕ) → not_over h v x y ≡ true → (h ≤ x) × (v ≤ y)
  bounded x y e = let b = both (leb h x) (leb v y) e in (leb-true h x b.0, leb-true v y b.1)

  stands : h ≤ 9240 → v ≤ 12400 → within h v non_essential_pairs ≡ true
  unfolding within
  stands a b =
      let p : h ≤ 9920 = omega arith in
      let q : v ≤ 14030 = omega arith in
      rw (le-leb h 9920 p, le-leb v 14030 q)

  turned : h ≤ 12400 → v ≤ 9240 → within h v non_essential_pairs ≡ true
  unfolding within
  turned a b =
      let p : h ≤ 14030 = omega arith in
      let q : v ≤ 9920 = omega arith in
      rw (le-leb h 14030 p, le-leb v 9920 q) (second (leb h 9920 && leb v 14030) _)

  by-case : (not_over h v 9240 12400 ≡ true) ⊎ (not_over h v 12400 9240 ≡ true) → within h v non_essential_pairs ≡ true
  by-case (inl e) = let b = bounded 9240 12400 e in stands b.0 b.1
  by-case (inr e) = let b = bounded 12400 9240 e in turned b.0 b.1

pub essential-within : EssentialWithin
unfolding within
essential-within h v e = by-case h v (either (not_over h v 9240 12400) (not_over h v 12400 9240) e)
