-- The first element that passes a test: it passes, there is one if any passes, and it is the one that passes where no other does.
use mathlib.Core.Path.{◌≡◌, refl}
use mathlib.Core.Bool.{Bool, true}
use mathlib.Core.List.{List, [], ◌∷◌}
use mathlib.Core.Option.{Option, none, some}
use Prim.Native.Nat.{ℕ, zero, suc}
use native.Mathlib.Omega.{arith}
use lib.ListN.{get_elem?}
use borrow.Table.Steps.{cases}
use Rattle.elements.specs.Judge.{Element}
use Rattle.parents.specs.Parent.{further, first_row}

-- an element at a row passes
pub record Passing (test : Element → Bool) (elements : List Element) (row : ℕ) : Type 0 where
  pub element : Element
  pub there : get_elem? elements row ≡ some element
  pub passes : test element ≡ true

module _ (test : Element → Bool) where
  pub first-none : (xs : List Element) → ((k : ℕ) (x : Element) → get_elem? xs k ≡ some x → test x ≡ true → ⊥) → first_row test xs ≡ none
  unfolding first_row
  first-none [] never = refl
  first-none (x ∷ xs) never =
      cases (test x)
      (λ t. absurd (never 0 x refl t))
      (λ t. let rest : first_row test xs ≡ none = first-none xs (λ k y e. never (suc k) y e) in rw (t, rest))

  pub first_one : (xs : List Element) (k : ℕ) (x : Element) → get_elem? xs k ≡ some x → test x ≡ true
      → ((i : ℕ) (y : Element) → get_elem? xs i ≡ some y → test y ≡ true → i ≡ k) → first_row test xs ≡ some k
  unfolding first_row
  first_one [] k x e t one = let z : ◌≡◌ {A = ℕ} 0 1 = cc in absurd (omega arith)
  first_one (y ∷ xs) zero x e t one = let q : y ≡ x = cc in rw (q, t)
  first_one (y ∷ xs) (suc k) x e t one =
      cases (test y)
      (λ u. let f = one 0 y refl u in absurd (omega arith))
      (λ u.
      let rest : first_row test xs ≡ some k = first_one xs k x e t (λ i z p v. let f = one (suc i) z p v in omega arith) in
      rw (u, rest))

  -- past one that does not pass
  later-told : (x : Element) (xs : List Element) (k : ℕ) (o : Option ℕ) →
      ((i : ℕ) → o ≡ some i → Passing test xs i) → further o ≡ some k → Passing test (x ∷ xs) k
  later-told x xs k none rest f = let z : ◌≡◌ {A = ℕ} 0 1 = cc in absurd (omega arith)
  later-told x xs k (some i) rest f =
      let h : k ≡ suc i = cc in
      let w = rest i refl in
      rw h (record { element = w.element; there = w.there; passes = w.passes })

  pub first-told : (xs : List Element) (k : ℕ) → first_row test xs ≡ some k → Passing test xs k
  unfolding first_row
  first-told [] k e = let z : ◌≡◌ {A = ℕ} 0 1 = cc in absurd (omega arith)
  first-told (x ∷ xs) k e =
      cases (test x)
      (λ t.
      let f : some 0 ≡ some k = rw t at e in
      let g : k ≡ 0 = cc in
      rw g (record { element = x; there = refl; passes = t }))
      (λ t. later-told x xs k (first_row test xs) (λ i p. first-told xs i p) (rw t at e))
