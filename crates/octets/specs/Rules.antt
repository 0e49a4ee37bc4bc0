-- The walk a second time, as rules with no count to end it: a derivation is a tree of these. A refusal is by the conditions of 2 to 8
-- (headers, specs/Conditions). `derived` and `derives` (proofs/RulesHold) show that the rules say what `run` says.
use Rattle.std.specs.Prelude.{ℕ, ◌+◌, ◌-◌, ◌<◌, ◌≡◌, Bool, true, false, List}
use Rattle.headers.specs.declared.Header.{Header}
use Rattle.headers.specs.declared.Head.TheVariants.{Item, ClosingMark}
use Rattle.headers.specs.Head.{constructed, head_at}
use Rattle.headers.specs.Conditions.{HeadRefused}
use Rattle.octets.specs.Walk.{Items, no_items, item, End, ends, stops, past_of}

-- the run from `at` has these items and ends so
pub data Runs (s : List ℕ) : (room at limit : ℕ) (marked : Bool) → Items → End → Type 0 where
  -- "The run ends exactly at the definite length"
  at_limit : {room at limit : ℕ} → at ≡ limit → Runs s room at limit false no_items (ends limit)
  -- "or an indefinite item reaches it unclosed"
  unclosed : {room at limit : ℕ} → at ≡ limit → Runs s room at limit true no_items (stops 7 limit)
  -- "or at the closing mark"
  closes : {room at limit : ℕ} {marked : Bool} → at < limit → head_at s at limit marked room ≡ ClosingMark
      → Runs s room at limit marked no_items (ends (at + 2))
  -- "The walk ends at its first fault": the condition of the number holds there, and none of an earlier one
  refuses : {room at limit : ℕ} {marked : Bool} {number place : ℕ} → at < limit → HeadRefused s at limit marked room number place
      → Runs s room at limit marked no_items (stops number place)
  -- a primitive item, then the rest of the run
  primitive : {room at limit : ℕ} {marked : Bool} {h : Header} {after : Items} {e : End}
      → at < limit → head_at s at limit marked room ≡ Item h → constructed h.code ≡ false
      → Runs s room h.bound limit marked after e
      → Runs s room at limit marked (item at h.code h.start (past_of h.marked h.bound) no_items after) e
  -- a constructed item whose run ends, then the rest of the run
  passes : {room at limit : ℕ} {marked : Bool} {h : Header} {inside after : Items} {next : ℕ} {e : End}
      → at < limit → head_at s at limit marked room ≡ Item h → constructed h.code ≡ true
      → Runs s (room - 1) h.start h.bound h.marked inside (ends next) → Runs s room next limit marked after e
      → Runs s room at limit marked (item at h.code h.start (past_of h.marked next) inside after) e
  -- a constructed item whose run is refused: "An item counts once its own header has passed"
  breaks : {room at limit : ℕ} {marked : Bool} {h : Header} {inside : Items} {number place : ℕ}
      → at < limit → head_at s at limit marked room ≡ Item h → constructed h.code ≡ true
      → Runs s (room - 1) h.start h.bound h.marked inside (stops number place)
      → Runs s room at limit marked (item at h.code h.start h.bound inside no_items) (stops number place)
