-- The walk of a stream: the items whose headers passed, and how the walk ended. Document 01, "Octet rules" and "Numbers given back".
-- Items have places, and values are bounded, not copied; what they stand for, with no places, is a tree of another crate.
use Rattle.std.specs.Prelude.{ℕ, suc, ◌+◌, ◌-◌, zero, Bool, cond, true, false, List, length, leb, Ok}
use Rattle.headers.specs.declared.Header.{Header}
use Rattle.headers.specs.declared.Head.{Head}
use Rattle.headers.specs.declared.Head.TheVariants.{Item, ClosingMark, Refusal}
use Rattle.headers.specs.Head.{constructed, head_at}
use Rattle.octets.specs.Told.{Outcome, refused}

-- "An item is a header with a value; a constructed value is a run of items, each with a value of its own." A run is none, or an
-- item with its place, the code of its type field, its value from start to past, the run inside it (none in a primitive) and the
-- items after it.
pub data Items : Type 0 where
  no_items : Items
  item : (at code start past : ℕ) → (inside after : Items) → Items

-- how many items there are, at any level
abbrev pub count : Items → ℕ
count no_items = 0
count (item at code start past inside after) = suc (count inside + count after)

-- "stream over 1,048,576 bytes"
abbrev pub stream_limit : ℕ
stream_limit = 1048576

-- "Top elements are at level 1; level 16 is the deepest."
abbrev pub deepest : ℕ
deepest = 16

-- A walk ends past a run, or stops with a refusal.
pub data End : Type 0 where
  ends : (at : ℕ) → End
  stops : (number place : ℕ) → End

pub record Walked : Type 0 where
  pub items : Items
  pub how : End

abbrev pub ended : ℕ → Walked
ended at = record { items = no_items; how = ends at }

abbrev pub stopped : ℕ → ℕ → Walked
stopped number place = record { items = no_items; how = stops number place }

-- "Closing marks lie .. in no value": where a value ends whose run ended before next
abbrev pub past_of : (marked : Bool) → (next : ℕ) → ℕ
past_of marked next = cond marked (next - 2) next

-- The item at `at` with what was walked inside it. Where that ended, more says what is walked from there; "The walk ends at its
-- first fault".
abbrev pub follow : ℕ → Header → Items → End → (ℕ → Walked) → Walked
follow at h inside (ends next) more =
    let w = more next in
    record { items = item at h.code h.start (past_of h.marked next) inside w.items; how = w.how }
follow at h inside (stops number place) more =
    record { items = item at h.code h.start h.bound inside no_items; how = stops number place }

-- the value of an item: "a constructed value is a run of items"
abbrev pub value : Bool → Header → (Header → Walked) → Walked
value true h run = run h
value false h run = ended h.bound

abbrev pub on_head : ℕ → Head → (Header → Walked) → (ℕ → Walked) → Walked
on_head at (Item h) run more =
    let v = value (constructed h.code) h run in
    follow at h v.items v.how more
on_head at ClosingMark run more = ended (at + 2)
on_head at (Refusal number place) run more = stopped number place

-- "The run ends exactly at the definite length, or at the closing mark"; "an indefinite item reaches it unclosed" is 7 at the limit.
-- Before the limit, what stands there decides.
abbrev pub step : Bool → (at limit : ℕ) → (marked : Bool) → Head → (Header → Walked) → (ℕ → Walked) → Walked
step true at limit marked head run more = cond marked (stopped 7 limit) (ended limit)
step false at limit marked head run more = on_head at head run more

-- The run from `at`, counting down from fuel items one after or inside another. The count is only there so that the definition ends:
-- `run_step` (proofs/Walks) is the equation of `run`, no count stands in it, and nothing after it looks at the count.
-- No 0 comes out: a stop has a number of 2 to 8 (`run-stops`, proofs/Numbers).
unfoldable pub run_for : (fuel room : ℕ) → List ℕ → (at limit : ℕ) → (marked : Bool) → Walked
run_for zero room s at limit marked = stopped 0 at
run_for (suc fuel) room s at limit marked =
    step (leb limit at) at limit marked (head_at s at limit marked room)
    (λ h. run_for fuel (room - 1) s h.start h.bound h.marked)
    (λ next. run_for fuel room s next limit marked)

-- the run from `at` to the limit, or to its closing mark if it is marked, with room levels left
unfoldable pub run : (room : ℕ) → List ℕ → (at limit : ℕ) → (marked : Bool) → Walked
run room s at limit marked = run_for (suc (limit - at)) room s at limit marked

-- "the header count is the number of items that passed 2 to 8": the count of the items that were walked
abbrev pub outcome_of : ℕ → End → Outcome
outcome_of n (ends at) = Ok (record { at = at; count = n })
outcome_of n (stops number place) = refused number place n

abbrev pub answer : Walked → Outcome
answer w = outcome_of (count w.items) w.how

-- "Refusal 1 comes first. Then the whole stream is walked for 2 to 8". After 1 the count is 0.
unfoldable pub walk_of : List ℕ → Outcome
walk_of s = cond (leb (length s) stream_limit) (answer (run deepest s 0 (length s) false)) (refused 1 0 0)

-- where the first item of a run stands: at end if there is none
abbrev pub start_of : (end : ℕ) → Items → ℕ
start_of end no_items = end
start_of end (item at code start past inside after) = at
