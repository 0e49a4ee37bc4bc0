-- One step of the pass for class B, as the code takes it: the state and the step of order/specs/PassB, with that of a unit and that of another
-- element apart.
use Rattle.std.specs.Prelude.{ℕ, suc, ◌-◌, ◌≡◌, Bool, cond, not, ◌&&◌, List, map, eqb, leb, ltb, drop, Option, Some, None}
use Rattle.elements.specs.Judge.{Element}
use Rattle.letters.specs.Telling.{RowsTell, element_at}
use Rattle.order.specs.Represents.{profile_kind, LimitsAside}
use Rattle.order.specs.Ranks.{rank_in}
use Rattle.order.specs.ClassB.{rows_b, end_b}
use Rattle.order.specs.PassB.{Sight, sight_of, StateB, StepB, goes, stops, start_b, can_come, pass_b}
use Rattle.order_b.specs.declared.State.{State}

abbrev pub state_of : State → StateB
state_of s = record { rank = s.rank; head = s.head; left = s.left }

abbrev pub step_of : Option State → StepB
step_of (Some s) = goes (state_of s)
step_of None = stops

-- a step is what is said of element j, whatever elements the rows tell
abbrev pub StepIs : (s rows : List ℕ) → (n j : ℕ) → (Sight → StepB) → Option State → Type 0
StepIs s rows n j said step =
    (elements : List Element) → RowsTell s rows n elements → LimitsAside elements → step_of step ≡ said (sight_of elements (element_at elements j))

-- the first element: the profile
abbrev pub first_step : Sight → StepB
first_step x = cond (eqb x.kind profile_kind && can_come x) (goes (start_b 0 x)) stops

-- a unit: the last head's own
abbrev pub unit_step : StateB → Sight → StepB
unit_step s x = cond (eqb x.owner (suc s.head)) (goes (record { rank = s.rank; head = s.head; left = s.left - 1 })) stops

-- what an element of a kind must be to follow a head: nothing waits, no second profile, a kind with a place, no rank below
abbrev pub may_follow : StateB → (kind : ℕ) → Bool
may_follow s kind = eqb s.left 0 && (not (eqb kind profile_kind) && (ltb (rank_in rows_b kind) end_b && leb s.rank (rank_in rows_b kind)))

-- any other element: the next head
abbrev pub head_step : StateB → (n : ℕ) → Sight → StepB
head_step s n x = cond (may_follow s x.kind && can_come x) (goes (start_b n x)) stops

-- the elements after the first, from a state
abbrev pub PassIs : (s rows : List ℕ) → (n : ℕ) → StateB → Option ℕ → Type 0
PassIs s rows n state found =
    (elements : List Element) → RowsTell s rows n elements → LimitsAside elements
    → found ≡ pass_b state 1 (map (sight_of elements) (drop 1 elements))
