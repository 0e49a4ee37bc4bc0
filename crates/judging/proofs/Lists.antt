-- What stands where in a list with one more at its end, and whether a test holds of any of a list.
use mathlib.Core.Path.{◌≡◌, refl, ap, sym, ◌∙◌}
use mathlib.Core.Bool.{Bool, true, false, ◌||◌, true≢false}
use mathlib.Core.List.{List, [], ◌∷◌, ◌++◌, map}
use mathlib.Core.Option.{some}
use Prim.Native.Nat.{ℕ, zero, suc, ◌<◌}
use native.Mathlib.Omega.{arith}
use borrow.Table.Steps.{cases}
use lib.ListN.{length, get_elem?}
use Rattle.portions.specs.Portions.{any}

or-true : (b : Bool) → b || true ≡ true
or-true true = refl
or-true false = refl

module _ {A : Type 0} where
  pub below_length : (xs : List A) (j : ℕ) (x : A) → get_elem? xs j ≡ some x → j < length xs
  below_length [] j x e = let z : ◌≡◌ {A = ℕ} 0 1 = cc in absurd (omega arith)
  below_length (y ∷ xs) zero x e = omega arith
  below_length (y ∷ xs) (suc j) x e = omega (arith, below_length xs j x e)

  pub at-below : (xs : List A) (j : ℕ) → j < length xs → (x : A) × (get_elem? xs j ≡ some x)
  at-below [] j l = absurd (omega arith)
  at-below (y ∷ xs) zero l = (y, refl)
  at-below (y ∷ xs) (suc j) l = at-below xs j (omega arith)

  pub at_front : (xs ys : List A) (j : ℕ) (x : A) → get_elem? xs j ≡ some x → get_elem? (xs ++ ys) j ≡ some x
  at_front [] ys j x e = let z : ◌≡◌ {A = ℕ} 0 1 = cc in absurd (omega arith)
  at_front (y ∷ xs) ys zero x e = e
  at_front (y ∷ xs) ys (suc j) x e = at_front xs ys j x e

  pub at-end : (xs : List A) (y : A) (j : ℕ) → j ≡ length xs → get_elem? (xs ++ y ∷ []) j ≡ some y
  at-end [] y zero e = refl
  at-end [] y (suc j) e = absurd (omega arith)
  at-end (x ∷ xs) y zero e = absurd (omega arith)
  at-end (x ∷ xs) y (suc j) e = at-end xs y j (omega arith)

  -- x stands at j in a list that ends in y
  pub data Last (xs : List A) (y : A) (j : ℕ) (x : A) : Type 0 where
    before : get_elem? xs j ≡ some x → Last xs y j x
    last : j ≡ length xs → x ≡ y → Last xs y j x

  later : (z : A) (xs : List A) (y : A) (j : ℕ) (x : A) → Last xs y j x → Last (z ∷ xs) y (suc j) x
  later z xs y j x (before e) = before e
  later z xs y j x (last p q) = last (ap suc p) q

  pub at_last : (xs : List A) (y : A) (j : ℕ) (x : A) → get_elem? (xs ++ y ∷ []) j ≡ some x → Last xs y j x
  at_last [] y zero x e = last refl (cc)
  at_last [] y (suc j) x e = let z : ◌≡◌ {A = ℕ} 0 1 = cc in absurd (omega arith)
  at_last (z ∷ xs) y zero x e = before e
  at_last (z ∷ xs) y (suc j) x e = later z xs y j x (at_last xs y j x e)

  pub any-true : (f : A → Bool) (xs : List A) (j : ℕ) (x : A) → get_elem? xs j ≡ some x → f x ≡ true → any (map f xs) ≡ true
  any-true f [] j x e t = let z : ◌≡◌ {A = ℕ} 0 1 = cc in absurd (omega arith)
  any-true f (y ∷ xs) zero x e t = let i : y ≡ x = cc in rw (i, t)
  any-true f (y ∷ xs) (suc j) x e t = cases (f y) (λ u. rw u) (λ u. rw u (any-true f xs j x e t))

  pub any_false : (f : A → Bool) (xs : List A) → ((j : ℕ) (x : A) → get_elem? xs j ≡ some x → f x ≡ false) → any (map f xs) ≡ false
  any_false f [] h = refl
  any_false f (x ∷ xs) h = rw (h 0 x refl) (any_false f xs (λ j y e. h (suc j) y e))

  pub any_none : (f : A → Bool) (xs : List A) → any (map f xs) ≡ false → (j : ℕ) (x : A) → get_elem? xs j ≡ some x → f x ≡ false
  any_none f xs n j x e = cases (f x) (λ t. absurd (true≢false (sym (any-true f xs j x e t) ∙ n))) (λ t. t)

  -- a test of two parts
  pub any-or : (f g : A → Bool) (xs : List A) → any (map (λ x. f x || g x) xs) ≡ (any (map f xs) || any (map g xs))
  any-or f g [] = refl
  any-or f g (x ∷ xs) =
      cases (f x) (λ t. rw t) (λ t. cases (g x) (λ u. rw (t, u) (sym (or-true (any (map f xs))))) (λ u. rw (t, u) (any-or f g xs)))
