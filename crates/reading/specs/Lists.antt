-- Lists in order, and lists with nothing twice.
use mathlib.Core.List.{List, [], ◌∷◌, Memᴰ}

module _ {A : Type 0} where
  -- each stands before all after it
  abbrev pub Sorted : (A → A → Type 0) → List A → Type 0
  Sorted R [] = Unit {0}
  Sorted R (x ∷ xs) = ((y : A) → Memᴰ y xs → R x y) × Sorted R xs

  -- nothing stands twice
  abbrev pub Once : List A → Type 0
  Once [] = Unit {0}
  Once (x ∷ xs) = (Memᴰ x xs → ⊥) × Once xs
