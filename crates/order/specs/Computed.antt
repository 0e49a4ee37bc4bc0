-- The order of a stream, computed, which is what the code is held to; and what is proved of the computation: it says what `InOrder`, `Begins`
-- and `FaultAt` say. proofs/Letters has a value of the record for the elements of every accepted stream.
use Rattle.std.specs.Prelude.{ℕ, ◌≡◌, ◌↔◌, true, List, [], ◌++◌, map, Option, None, Some}
use Rattle.elements.specs.declared.Edition.{Edition}
use Rattle.elements.specs.Judge.{Element}
use Rattle.letters.specs.Letter.{Letter, letter, refusal, letter_in}
use Rattle.order.specs.declared.Class.{Class}
use Rattle.order.specs.declared.Class.TheVariants.{A, B}
use Rattle.order.specs.declared.Ordered.{Ordered}
use Rattle.order.specs.Begins.{InOrder, Begins, FaultAt}
use Rattle.order.specs.Question.{verdict, out_of_order_number, element_start}
use Rattle.order.specs.Fault.{begins, fault_of}
use Rattle.order.specs.PassA.{sights_a, place_a}
use Rattle.order.specs.PassB.{sight_of, place_b}

abbrev pub by_found : (s : List ℕ) → List Element → Option ℕ → Ordered
by_found s elements None = verdict 0 0
by_found s elements (Some n) = verdict out_of_order_number (element_start s elements n)

abbrev pub by_letter : Class → (s : List ℕ) → Letter → Ordered
by_letter class s (refusal number place headers) = verdict number place
by_letter class s (letter headers elements) = by_found s elements (fault_of class elements)

-- the order of a stream, computed
unfoldable pub order_in : Edition → Class → (s : List ℕ) → Ordered
order_in edition class s = by_letter class s (letter_in edition s)

-- one pass over numbers
abbrev pub pass_of : Class → List Element → Option ℕ
pass_of A elements = place_a (sights_a [] elements)
pass_of B elements = place_b (map (sight_of elements) elements)

pub record ComputedOf (class : Class) (elements : List Element) : Type 0 where
  -- a front is judged as it is said: it begins some run in the order, limits aside
  pub front_exactly : (front rest : List Element) → elements ≡ front ++ rest → (begins class front ≡ true) ↔ Begins class front
  -- 26 and its place, or in order: what is computed is what is said
  pub fault_exactly : (n : ℕ) → (fault_of class elements ≡ Some n) ↔ FaultAt class elements n
  pub in_order_exactly : (fault_of class elements ≡ None) ↔ InOrder class elements
  -- one pass finds it
  pub pass_exactly : pass_of class elements ≡ fault_of class elements
