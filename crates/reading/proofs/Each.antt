-- What is listed for each of a list: where a member of it comes from, that it is in order, and when it has one member or none.
use mathlib.Core.Path.{◌≡◌, refl, ap, ◌∙◌}
use mathlib.Core.Logic.{◌⊎◌, inl, inr}
use mathlib.Core.Bool.{Bool, true, false}
use mathlib.Core.Option.{some}
use mathlib.Core.List.Memᴰ
use mathlib.Core.List.{List, [], ◌∷◌, Memᴰ}
use Prim.Native.Nat.{ℕ, zero, suc, ◌+◌, ◌<◌, ◌≤◌}
use native.Mathlib.Omega.{arith}
use lib.ListN.{length, get_elem?, length-append}
use borrow.Table.Steps.{cases}
use Rattle.reading.specs.Match.{for_each, only}
use Rattle.reading.specs.Lists.{Sorted}
use Rattle.reading.proofs.Lists.{sorted-append}

module _ {B : Type 0} where
  pub only-in : (test : Bool) (y : B) → test ≡ true → Memᴰ y (only test y)
  only-in test y e = rw e (Memᴰ.head refl)

  pub only_out : (test : Bool) (x y : B) → Memᴰ y (only test x) → (test ≡ true) × (y ≡ x)
  only_out true x y m = (refl, Memᴰ.eq_of_singleton m)
  only_out false x y m = absurd (Memᴰ.not-nil m)

  pub only-sorted : (R : B → B → Type 0) (test : Bool) (x : B) → Sorted R (only test x)
  only-sorted R true x = (λ y m. absurd (Memᴰ.not-nil m), tt)
  only-sorted R false x = tt

module _ {A B : Type 0} (f : ℕ → A → List B) where
  -- y is listed for the one at a place of xs, which has the number n with the first of them
  pub record From (n : ℕ) (xs : List A) (y : B) : Type 0 where
    pub place : ℕ
    pub here : A
    pub at : get_elem? xs place ≡ some here
    pub from : Memᴰ y (f (n + place) here)

  from_either : (n : ℕ) (x : A) (xs : List A) (y : B) → (Memᴰ y (for_each (suc n) xs f) → From (suc n) xs y)
      → Memᴰ y (f n x) ⊎ Memᴰ y (for_each (suc n) xs f) → From n (x ∷ xs) y
  from_either n x xs y below (inl m) =
      let e : n + 0 ≡ n = omega arith in
      record { place = 0; here = x; at = refl; from = rw e m }
  from_either n x xs y below (inr m) =
      let w = below m in
      let e : n + suc w.place ≡ suc n + w.place = omega arith in
      record { place = suc w.place; here = w.here; at = w.at; from = rw e w.from }

  pub each-out : (n : ℕ) (xs : List A) (y : B) → Memᴰ y (for_each n xs f) → From n xs y
  unfolding for_each
  each-out n [] y m = absurd (Memᴰ.not-nil m)
  each-out n (x ∷ xs) y m = from_either n x xs y (each-out (suc n) xs y) (Memᴰ.append_cases (f n x) m)

  pub each_in : (n : ℕ) (xs : List A) (y : B) (k : ℕ) (x : A) → get_elem? xs k ≡ some x → Memᴰ y (f (n + k) x) → Memᴰ y (for_each n xs f)
  unfolding for_each
  each_in n [] y k x e m = let z : ◌≡◌ {A = ℕ} 0 1 = cc in absurd (omega arith)
  each_in n (a ∷ xs) y zero x e m =
      let i : n + 0 ≡ n = omega arith in
      let j : x ≡ a = cc in
      Memᴰ.append_left (for_each (suc n) xs f) (rw (i, j) at m)
  each_in n (a ∷ xs) y (suc k) x e m =
      let i : n + suc k ≡ suc n + k = omega arith in
      Memᴰ.append_right (f n a) (each_in (suc n) xs y k x e (rw i at m))

  module _ (R : B → B → Type 0) (within : (n : ℕ) (x : A) → Sorted R (f n x))
      (across : (n k : ℕ) (x z : A) (y w : B) → n < k → Memᴰ y (f n x) → Memᴰ w (f k z) → R y w) where
    pub each-sorted : (n : ℕ) (xs : List A) → Sorted R (for_each n xs f)
    unfolding for_each
    each-sorted n [] = tt
    each-sorted n (x ∷ xs) =
        sorted-append R (f n x) (for_each (suc n) xs f) (within n x) (each-sorted (suc n) xs)
        (λ y w a b. let o = each-out (suc n) xs w b in across n (suc n + o.place) x o.here y w (omega arith) a o.from)

  -- nothing is listed, if nothing is for each; and one for each at most, if so for each
  pub each_none : ((n : ℕ) (x : A) → f n x ≡ []) → (n : ℕ) (xs : List A) → for_each n xs f ≡ []
  unfolding for_each
  each_none none n [] = refl
  each_none none n (x ∷ xs) = rw (none n x) (each_none none (suc n) xs)

  pub each-few : ((n : ℕ) (x : A) → length (f n x) ≤ 1) → (n : ℕ) (xs : List A) → length (for_each n xs f) ≤ length xs
  unfolding for_each
  each-few few n [] = omega arith
  each-few few n (x ∷ xs) =
      simp (length-append (f n x) (for_each (suc n) xs f)) (let a = few n x in let b = each-few few (suc n) xs in omega arith)

-- what is listed for those that pass a test
module _ {A B : Type 0} (test : A → Bool) (g : ℕ → B) where
  abbrev listed : ℕ → List A → List B
  listed n xs = for_each n xs (λ k x. only (test x) (g k))

  pub none_passes : (n : ℕ) (xs : List A) → ((k : ℕ) (x : A) → get_elem? xs k ≡ some x → test x ≡ true → ⊥) → listed n xs ≡ []
  unfolding for_each
  none_passes n [] fails = refl
  none_passes n (x ∷ xs) fails =
      cases (test x) (λ t. absurd (fails 0 x refl t)) (λ t. rw t (none_passes (suc n) xs (λ k. fails (suc k))))

  pub one_passes : (n : ℕ) (xs : List A) (k : ℕ) (x : A) → get_elem? xs k ≡ some x → test x ≡ true
      → ((j : ℕ) (y : A) → get_elem? xs j ≡ some y → test y ≡ true → j ≡ k) → listed n xs ≡ g (n + k) ∷ []
  unfolding for_each
  one_passes n [] k x e t one = let z : ◌≡◌ {A = ℕ} 0 1 = cc in absurd (omega arith)
  one_passes n (y ∷ xs) zero x e t one =
      let i : n + 0 ≡ n = omega arith in
      let h : y ≡ x = cc in
      let u : test y ≡ true = ap test h ∙ t in
      let none : listed (suc n) xs ≡ [] = none_passes (suc n) xs (λ j z f v. let w = one (suc j) z f v in omega arith) in
      rw (u, none, i)
  one_passes n (y ∷ xs) (suc k) x e t one =
      let i : n + suc k ≡ suc n + k = omega arith in
      let r : listed (suc n) xs ≡ g (suc n + k) ∷ [] =
      one_passes (suc n) xs k x e t (λ j z f v. let w = one (suc j) z f v in omega arith) in
      cases (test y)
      (λ u. let w = one 0 y refl u in absurd (omega arith))
      (λ u. rw (u, i) r)

  pub few-pass : (n : ℕ) (xs : List A)
      → ((i j : ℕ) (x y : A) → get_elem? xs i ≡ some x → get_elem? xs j ≡ some y → test x ≡ true → test y ≡ true → i ≡ j) → length (listed n xs) ≤ 1
  unfolding for_each
  few-pass n [] one = omega arith
  few-pass n (x ∷ xs) one =
      cases (test x)
      (λ t.
      let none : listed (suc n) xs ≡ [] = none_passes (suc n) xs (λ k y e u. let w = one 0 (suc k) x y refl e t u in omega arith) in
      rw (t, none) (omega arith))
      (λ t. rw t (few-pass (suc n) xs (λ i j y z e f u v. let w = one (suc i) (suc j) y z e f u v in omega arith)))
