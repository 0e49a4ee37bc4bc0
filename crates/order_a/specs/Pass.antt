-- What the code of the pass for class A sees of an element and keeps of what went before, in numbers; of whatever elements the rows tell.
use Rattle.std.specs.Prelude.{ℕ, suc, ◌*◌, ◌<◌, ◌≤◌, ◌≡◌, ◌⊎◌, Bool, false, ◌||◌, List, [], map, eqb, min, length, take, drop, Some, Option, None}
use Rattle.portions.specs.Portions.{any}
use Rattle.rows.specs.Columns.{identifier_column, kind_at}
use Rattle.elements.specs.Judge.{Element}
use Rattle.reading.specs.declared.Side.{Side}
use Rattle.reading.specs.Match.{matches}
use Rattle.letters.specs.Telling.{RowsTell}
use Rattle.rows.specs.Columns.{span_at, there}
use Rattle.order.specs.Represents.{◌∈◌, LimitsAside}
use Rattle.order.specs.ClassA.{specific_rank}
use Rattle.order.specs.PassA.{sights_a, pass_a, place_a}
use Rattle.owners.specs.Owner.{match_of, listed_at}
use Rattle.order_a.specs.declared.ranks.Sight.{Sight}
use Rattle.order_a.specs.Step.{as_state, next}
use Rattle.order_a.specs.declared.turns.Own.{Own}
use Rattle.order_a.specs.declared.Walk.{Walk}
use Rattle.order_a.specs.Turns.{kind_for, own_for, turn_for, counts, before}

-- what is seen of element k
unfoldable pub sight_for : (s rows : List ℕ) → (k : ℕ) → Walk → (layout logical : Own) → (row base : ℕ) → Sight
sight_for s rows k w layout logical row base =
    record {
      kind = kind_at rows k;
      named = there (span_at rows identifier_column k);
      lists = length (listed_at s rows k);
      early = eqb w.least k;
      generic = counts layout 1 logical 5;
      specific = counts layout 2 logical 6;
      ordered = eqb (own_for w.layouts layout logical).kind (kind_for w.layouts);
      turn = turn_for (own_for w.layouts layout logical) (kind_for w.layouts) row base w.state.ordered;
    }

-- there is a layout object: there was one before, or the element is one
unfoldable pub has_layouts : (before : Bool) → (kind : ℕ) → Bool
has_layouts before kind = before || eqb kind 2

-- and what is known after it
unfoldable pub walk_for : Walk → Sight → (layout logical : Own) → (row base : ℕ) → Walk
walk_for w x layout logical row base =
    record {
      state = next w.state x;
      least = min w.least (min layout.later logical.later);
      row = row;
      base = base;
      layouts = has_layouts w.layouts x.kind;
    }

-- after the profile: nothing has been
abbrev pub start_of : (n : ℕ) → Walk
start_of n = record { state = record { rank = 0; generic = 0; specific = 0; ordered = 0 }; least = n; row = 0; base = 0; layouts = false }

-- what is known before element k, of the elements,
pub record Standing (elements : List Element) (k : ℕ) (w : Walk) : Type 0 where
  -- the place of 26 is what the definition's pass finds from here
  pub goes_on : place_a (sights_a [] elements) ≡ pass_a (as_state w.state) k (sights_a (take k elements) (drop k elements))
  -- of the rows from k on that a unit before k is associated with on a side, the least; how many rows there are, if there is none
  pub least_low : k ≤ w.least
  pub no_less : (side : Side) (row portion u : ℕ) → u < k → match_of row portion u ∈ matches side elements → (row < k) ⊎ (w.least ≤ row)
  pub least_is : (w.least ≡ length elements) ⊎ ((side : Side) × (portion : ℕ) × (u : ℕ) × (u < k) × (match_of w.least portion u ∈ matches side elements))
  -- there is a layout object among the elements before k
  pub layouts_is : any (map (λ e. eqb e.kind 2) (take k elements)) ≡ w.layouts
  -- so many portions are listed before the row, by the objects by which units are ordered; their units have been
  pub base_is : w.base ≡ before (kind_for w.layouts) elements w.row
  pub base_low : w.base ≤ w.state.ordered
  -- where portions were counted, an ordered unit has been
  pub ordered_rank : (w.row ≡ 0) ⊎ (specific_rank ≤ w.state.rank)

-- and of the numbers: at most 64 portions an element, so that none can pass what a number holds
pub record Bounds (k : ℕ) (w : Walk) : Type 0 where
  pub row : w.row ≤ k
  pub base : w.base ≤ 64 * w.row
  pub generic : w.state.generic ≤ 64 * k
  pub specific : w.state.specific ≤ 64 * k
  pub ordered : w.state.ordered ≤ k

-- what a step answers: 26 is here, or the same is known before the next element
abbrev pub StepAt : (s rows : List ℕ) → (n k : ℕ) → Walk → Option Walk → Type 0
StepAt s rows n k w None =
    (elements : List Element) → RowsTell s rows n elements → LimitsAside elements → Standing elements k w → place_a (sights_a [] elements) ≡ Some k
StepAt s rows n k w (Some v) =
    Bounds (suc k) v × ((elements : List Element) → RowsTell s rows n elements → LimitsAside elements → Standing elements k w → Standing elements (suc k) v)
