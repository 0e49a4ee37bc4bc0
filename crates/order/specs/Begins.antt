-- To be in order, to begin a run in order, and the place of 26. W-207.
use Rattle.std.specs.Prelude.{ℕ, suc, ◌<◌, ◌≡◌, ◌⊎◌, List, ◌++◌, length, take}
use Rattle.elements.specs.Judge.{Element}
use Rattle.order.specs.declared.Class.{Class}
use Rattle.order.specs.declared.Class.TheVariants.{A, B}
use Rattle.order.specs.Represents.{LimitsAside}
use Rattle.order.specs.ClassA.{InOrderA}
use Rattle.order.specs.ClassB.{InOrderB}

-- a whole run is in the order of a class
abbrev pub InOrder : Class → List Element → Type 0
InOrder A elements = InOrderA elements
InOrder B elements = InOrderB elements

-- "begin .. [a] run in the asked order, limits aside": some run in the order starts with these elements
pub record Begins (class : Class) (front : List Element) : Type 0 where
  pub more : List Element
  pub aside : LimitsAside (front ++ more)
  pub in_order : InOrder class (front ++ more)

-- 26 "at the first element such that the elements through it begin no run in the asked order, limits aside; at the stream's length if only
-- the end is missing": the element's number, or how many there are
pub record FaultAt (class : Class) (elements : List Element) (n : ℕ) : Type 0 where
  pub before : (k : ℕ) → k < n → Begins class (take (suc k) elements)
  pub here : ((n < length elements) × (Begins class (take (suc n) elements) → ⊥)) ⊎ ((n ≡ length elements) × (InOrder class elements → ⊥))
