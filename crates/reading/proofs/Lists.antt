-- Lists in order, lists with nothing twice, and which of their members stands where.
use mathlib.Core.Path.{◌≡◌, refl, ap, sym, ◌∙◌, subst}
use mathlib.Core.Logic.{◌⊎◌, inl, inr}
use mathlib.Core.Option.{some}
use mathlib.Core.List.Memᴰ
use mathlib.Core.List.{List, [], ◌∷◌, ◌++◌, map, Memᴰ}
use Prim.Native.Nat.{ℕ, zero, suc, ◌<◌, ◌≤◌}
use native.Mathlib.Omega.{arith}
use lib.ListN.{length, get_elem?, get_or}
use Rattle.reading.specs.Lists.{Sorted, Once}

module _ {A : Type 0} where
  -- what stands at a place within the list
  pub at-get_d : (xs : List A) (k : ℕ) (d : A) → k < length xs → get_elem? xs k ≡ some (get_or xs k d)
  at-get_d [] k d l = absurd (omega arith)
  at-get_d (y ∷ xs) zero d l = refl
  at-get_d (y ∷ xs) (suc k) d l = at-get_d xs k d (omega arith)

  -- what stands at a place is a member
  pub in-member : (x : A) (xs : List A) (i : ℕ) → get_elem? xs i ≡ some x → Memᴰ x xs
  in-member x [] i e = let z : ◌≡◌ {A = ℕ} 0 1 = cc in absurd (omega arith)
  in-member x (y ∷ xs) zero e = let f : x ≡ y = cc in Memᴰ.head f
  in-member x (y ∷ xs) (suc i) e = Memᴰ.tail (in-member x xs i e)

  -- of a sorted list an earlier one stands before a later one
  pub sorted-at : (R : A → A → Type 0) (xs : List A) → Sorted R xs → (i j : ℕ) (x y : A) → i < j → get_elem? xs i ≡ some x → get_elem? xs j ≡ some y → R x y
  sorted-at R [] o i j x y l p q = let z : ◌≡◌ {A = ℕ} 0 1 = cc in absurd (omega arith)
  sorted-at R (z ∷ xs) o i zero x y l p q = absurd (omega arith)
  sorted-at R (z ∷ xs) o zero (suc j) x y l p q = let f : z ≡ x = cc in subst (λ (a : A). R a y) f (o.0 y (in-member y xs j q))
  sorted-at R (z ∷ xs) o (suc i) (suc j) x y l p q = sorted-at R xs o.1 i j x y (omega arith) p q

  module _ (R : A → A → Type 0) where
    before-either : (x y : A) (xs ys : List A) → (Memᴰ y xs → R x y) → (Memᴰ y ys → R x y) → Memᴰ y xs ⊎ Memᴰ y ys → R x y
    before-either x y xs ys p q (inl m) = p m
    before-either x y xs ys p q (inr m) = q m

    pub sorted-append : (xs ys : List A) → Sorted R xs → Sorted R ys → ((x y : A) → Memᴰ x xs → Memᴰ y ys → R x y) → Sorted R (xs ++ ys)
    sorted-append [] ys p q b = q
    sorted-append (x ∷ xs) ys p q b = (
      λ y m. before-either x y xs ys (p.0 y) (b x y (Memᴰ.head refl)) (Memᴰ.append_cases xs m),
      sorted-append xs ys p.1 q (λ z y m. b z y (Memᴰ.tail m)),
    )

  pub sorted-once : (R : A → A → Type 0) → ((x : A) → R x x → ⊥) → (xs : List A) → Sorted R xs → Once xs
  sorted-once R irr [] s = tt
  sorted-once R irr (x ∷ xs) s = (λ m. irr x (s.0 x m), sorted-once R irr xs s.1)

-- where f takes no two members to the same
module _ {A B : Type 0} (f : A → B) where
  pub once-map : (xs : List A) → Once xs → ((x y : A) → Memᴰ x xs → Memᴰ y xs → f x ≡ f y → x ≡ y) → Once (map f xs)
  once-map [] o one = tt
  once-map (x ∷ xs) o one =
      (λ m. elsewhere (Memᴰ.of_map f xs m), once-map xs o.1 (λ y z m n. one y z (Memᴰ.tail m) (Memᴰ.tail n)))
    where
      elsewhere : ((y : A) × Memᴰ y xs × (f y ≡ f x)) → ⊥
      elsewhere (y, m, e) = o.0 (rw (one y x (Memᴰ.tail m) (Memᴰ.head refl) e) at m)

-- a list without one of its members
record Without {A : Type 0} (x : A) (ys : List A) : Type 0 where
  rest : List A
  shorter : length ys ≡ suc (length rest)
  keeps : (z : A) → Memᴰ z ys → (z ≡ x → ⊥) → Memᴰ z rest

module _ {A : Type 0} where
  not_first : (x y z : A) (ys : List A) → x ≡ y → (z ≡ x → ⊥) → (z ≡ y) ⊎ Memᴰ z ys → Memᴰ z ys
  not_first x y z ys e d (inl f) = absurd (d (f ∙ sym e))
  not_first x y z ys e d (inr m) = m

  first-or : (x y z : A) (ys : List A) (w : Without x ys) → (z ≡ x → ⊥) → (z ≡ y) ⊎ Memᴰ z ys → Memᴰ z (y ∷ w.rest)
  first-or x y z ys w d (inl f) = Memᴰ.head f
  first-or x y z ys w d (inr m) = Memᴰ.tail (w.keeps z m d)

  without-either : (x y : A) (ys : List A) → (Memᴰ x ys → Without x ys) → (x ≡ y) ⊎ Memᴰ x ys → Without x (y ∷ ys)
  without-either x y ys below (inl e) = record { rest = ys; shorter = refl; keeps = λ z m d. not_first x y z ys e d (Memᴰ.cases_cons m) }
  without-either x y ys below (inr m) =
      let w = below m in
      record { rest = y ∷ w.rest; shorter = ap suc w.shorter; keeps = λ z m d. first-or x y z ys w d (Memᴰ.cases_cons m) }

  without : (x : A) (ys : List A) → Memᴰ x ys → Without x ys
  without x [] m = absurd (Memᴰ.not-nil m)
  without x (y ∷ ys) m = without-either x y ys (without x ys) (Memᴰ.cases_cons m)

  -- a list with nothing twice is no longer than one that has all its members
  pub once-fits : (xs ys : List A) → Once xs → ((x : A) → Memᴰ x xs → Memᴰ x ys) → length xs ≤ length ys
  once-fits [] ys o i = omega arith
  once-fits (x ∷ xs) ys o i =
      let w = without x ys (i x (Memᴰ.head refl)) in
      let few = once-fits xs w.rest o.1 (λ z m. w.keeps z (i z (Memᴰ.tail m)) (λ e. o.0 (subst-mem e m))) in
      omega (arith, w.shorter)
    where
      subst-mem : {z : A} → z ≡ x → Memᴰ z xs → Memᴰ x xs
      subst-mem e m = rw e at m
