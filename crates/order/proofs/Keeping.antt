-- What is kept of two lists, or by two tests; and ranks that ascend, of two lists.
use mathlib.Core.Path.{◌≡◌, refl, sym, subst}
use mathlib.Core.Logic.{◌⊎◌, inl, inr}
use mathlib.Core.Bool.{Bool, true, false}
use mathlib.Core.List.Memᴰ
use mathlib.Core.List.{List, [], ◌∷◌, ◌++◌, map, append_assoc}
use Prim.Native.Nat.{ℕ, ◌≤◌}
use lib.Dec.{leb}
use borrow.Author.Tests.{leb-true, le-leb}
use borrow.Table.Steps.{cases}
use Rattle.elements.specs.Judge.{Element}
use Rattle.order.specs.Represents.{◌∈◌, Ascending, listing_of, everything, keep}
use Rattle.order.specs.ClausesA.{ascends}
use Rattle.portions.specs.Portions.{all}
use Rattle.order.proofs.Tests.{both, all_in, all_of}

module _ {A : Type 0} where
  pub keep_append : (test : A → Bool) (xs ys : List A) → keep test (xs ++ ys) ≡ keep test xs ++ keep test ys
  unfolding keep
  keep_append test [] ys = refl
  keep_append test (x ∷ xs) ys = cases (test x) (λ t. rw (t, keep_append test xs ys)) (λ t. rw (t, keep_append test xs ys))

  pub keep-none : (test : A → Bool) (xs : List A) → ((x : A) → x ∈ xs → test x ≡ false) → keep test xs ≡ []
  unfolding keep
  keep-none test [] h = refl
  keep-none test (x ∷ xs) h = rw (h x (Memᴰ.head refl)) (keep-none test xs (λ y m. h y (Memᴰ.tail m)))

  pub keep_all : (test : A → Bool) (xs : List A) → ((x : A) → x ∈ xs → test x ≡ true) → keep test xs ≡ xs
  unfolding keep
  keep_all test [] h = refl
  keep_all test (x ∷ xs) h = rw (h x (Memᴰ.head refl), keep_all test xs (λ y m. h y (Memᴰ.tail m)))

  pub keep_same : (s t : A → Bool) (xs : List A) → ((x : A) → x ∈ xs → s x ≡ t x) → keep s xs ≡ keep t xs
  unfolding keep
  keep_same s t [] h = refl
  keep_same s t (x ∷ xs) h = rw (h x (Memᴰ.head refl), keep_same s t xs (λ y m. h y (Memᴰ.tail m)))

  pub keep-swap : (s t : A → Bool) (xs : List A) → keep s (keep t xs) ≡ keep t (keep s xs)
  unfolding keep
  keep-swap s t [] = refl
  keep-swap s t (x ∷ xs) =
      let ih = keep-swap s t xs in
      cases (t x) (λ u. cases (s x) (λ v. rw (u, v, u, ih)) (λ v. rw (u, v, ih))) (λ u. cases (s x) (λ v. rw (u, v, u, ih)) (λ v. rw (u, v, ih)))

  pub ascending-left : (f g : A → ℕ) (xs ys : List A) → ((x : A) → x ∈ xs → f x ≡ g x) → Ascending f (xs ++ ys) → Ascending g xs
  ascending-left f g [] ys h a = tt
  ascending-left f g (x ∷ xs) ys h a = (
    λ y m. subst (λ (n : ℕ). n ≤ g y) (h x (Memᴰ.head refl)) (subst (λ (n : ℕ). f x ≤ n) (h y (Memᴰ.tail m)) (a.0 y (Memᴰ.append_left ys m))),
    ascending-left f g xs ys (λ y m. h y (Memᴰ.tail m)) a.1,
  )

  pub ascending-cross : (f : A → ℕ) (xs ys : List A) → Ascending f (xs ++ ys) → (x y : A) → x ∈ xs → y ∈ ys → f x ≤ f y
  ascending-cross f [] ys a x y m n = absurd (Memᴰ.not-nil m)
  ascending-cross f (z ∷ xs) ys a x y m n = step (λ o. ascending-cross f xs ys a.1 x y o n) (Memᴰ.cases_cons m)
    where
      step : (x ∈ xs → f x ≤ f y) → (x ≡ z) ⊎ (x ∈ xs) → f x ≤ f y
      step below (inl e) = subst (λ (w : A). f w ≤ f y) (sym e) (a.0 y (Memᴰ.append_right xs n))
      step below (inr o) = below o

  pub ascending-append : (f : A → ℕ) (xs ys : List A) → Ascending f xs → Ascending f ys → ((x y : A) → x ∈ xs → y ∈ ys → f x ≤ f y) → Ascending f (xs ++ ys)
  ascending-append f [] ys a b c = b
  ascending-append f (x ∷ xs) ys a b c =
      (λ y m. step y (Memᴰ.append_cases xs m), ascending-append f xs ys a.1 b (λ z y m n. c z y (Memᴰ.tail m) n))
    where
      step : (y : A) → (y ∈ xs) ⊎ (y ∈ ys) → f x ≤ f y
      step y (inl m) = a.0 y m
      step y (inr m) = c x y (Memᴰ.head refl) m

  pub ascending-any : (f : A → ℕ) (xs : List A) → ((x y : A) → x ∈ xs → y ∈ xs → f x ≤ f y) → Ascending f xs
  ascending-any f [] h = tt
  ascending-any f (x ∷ xs) h = (
    λ y m. h x y (Memᴰ.head refl) (Memᴰ.tail m),
    ascending-any f xs
        (λ z y m n. h z y (Memᴰ.tail m) (Memᴰ.tail n)),
  )

  pub keep-map : {B : Type 0} (test : B → Bool) (f : A → B) (xs : List A) → keep test (map f xs) ≡ map f (keep (λ x. test (f x)) xs)
  unfolding keep
  keep-map test f [] = refl
  keep-map test f (x ∷ xs) = cases (test (f x)) (λ t. rw (t, keep-map test f xs)) (λ t. rw (t, keep-map test f xs))

-- the test for ascending ranks
pub ascends-of : (f : Element → ℕ) (xs : List Element) → Ascending f xs → ascends f xs ≡ true
unfolding ascends
ascends-of f [] a = refl
ascends-of f (x ∷ xs) a = rw (all_of (λ y. leb (f x) (f y)) xs (λ y m. le-leb (f x) (f y) (a.0 y m))) (ascends-of f xs a.1)

pub ascends-told : (f : Element → ℕ) (xs : List Element) → ascends f xs ≡ true → Ascending f xs
unfolding ascends
ascends-told f [] t = tt
ascends-told f (x ∷ xs) t =
    let r = both (all (map (λ y. leb (f x) (f y)) xs)) (ascends f xs) t in
    (λ y m. leb-true (f x) (f y) (all_in (λ y. leb (f x) (f y)) xs r.0 y m), ascends-told f xs r.1)

-- what two lists list
pub everything-append : (xs ys : List Element) → everything (xs ++ ys) ≡ everything xs ++ everything ys
unfolding everything
everything-append [] ys = refl
everything-append (x ∷ xs) ys = rw (everything-append xs ys, append_assoc (listing_of x x.portions) (everything xs) (everything ys))

pub everything-none : (xs : List Element) → ((e : Element) → e ∈ xs → e.portions ≡ []) → everything xs ≡ []
unfolding everything
everything-none [] h = refl
everything-none (x ∷ xs) h = rw (h x (Memᴰ.head refl)) (everything-none xs (λ e m. h e (Memᴰ.tail m)))
