-- The place of 26, computed: the first front that begins no run, or the end if the whole is not in order. proofs/ shows that it is so.
use Rattle.std.specs.Prelude.{ℕ, ◌≡◌, Bool, cond, List, [], ◌∷◌, ◌++◌, length, Option, None, Some}
use Rattle.elements.specs.Judge.{Element}
use Rattle.letters.specs.Telling.{RowsTell}
use Rattle.order.specs.declared.Class.{Class}
use Rattle.order.specs.declared.Class.TheVariants.{A, B}
use Rattle.order.specs.Represents.{LimitsAside}
use Rattle.order.specs.ClausesA.{begins_a, ordered_a}
use Rattle.order.specs.ClausesB.{begins_b, ordered_b}

abbrev pub begins : Class → List Element → Bool
begins A front = begins_a front
begins B front = begins_b front

abbrev pub ordered : Class → List Element → Bool
ordered A elements = ordered_a elements
ordered B elements = ordered_b elements

-- the elements after a front that begins
unfoldable pub fault_from : Class → (front rest : List Element) → Option ℕ
fault_from class front [] = cond (ordered class front) None (Some (length front))
fault_from class front (x ∷ xs) = cond (begins class (front ++ x ∷ [])) (fault_from class (front ++ x ∷ []) xs) (Some (length front))

abbrev pub fault_of : Class → List Element → Option ℕ
fault_of class elements = fault_from class [] elements

-- what a pass over the rows must find: the fault of the elements that the rows tell
abbrev pub FaultIn : Class → (s rows : List ℕ) → (n : ℕ) → Option ℕ → Type 0
FaultIn class s rows n found = (elements : List Element) → RowsTell s rows n elements → LimitsAside elements → found ≡ fault_of class elements
