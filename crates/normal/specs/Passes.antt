-- What the writer's passes over a stream whose walk ended meet, measure and write: the contracts of the functions inside this crate. What
-- the writer answers and writes in all is in Writes, and needs none of it.
use Rattle.std.specs.Prelude.{ℕ, ◌+◌, ◌-◌, ◌<◌, ◌≤◌, ◌≡◌, Bool, true, false, cond, List, leb, length, Option, Some, None}
use Rattle.std.proofs.Math.Seq.{slice}
use Rattle.std.proofs.lemmas.List.Edits.{sets}
use Rattle.headers.specs.declared.Header.{Header}
use Rattle.headers.specs.declared.Head.{Head}
use Rattle.headers.specs.declared.Head.TheVariants.{Item, ClosingMark, Refusal}
use Rattle.headers.specs.Head.{constructed, type_field, head_at}
use Rattle.octets.specs.Walk.{stream_limit, deepest, End, ends, stops, past_of, run}
use Rattle.octets.specs.Values.{value_of}
use Rattle.tree.specs.Tree.{plain}
use Rattle.tree.specs.Accepts.{Whole}
use Rattle.normal.specs.declared.Measured.{Measured}
use Rattle.normal.specs.Normal.{further_octets, normal_of}

-- The run from `from` was walked to its end, in a stream within the limit.
pub record RunEnds (room : ℕ) (s : List ℕ) (from limit : ℕ) (marked : Bool) : Type 0 where
  pub order : from ≤ limit
  pub within : limit ≤ length s
  pub small : length s ≤ stream_limit
  pub whole : Whole (run room s from limit marked).how

-- The value of the item with the header h was walked to its end, in a stream within the limit.
pub record ValueEnds (room : ℕ) (s : List ℕ) (h : Header) : Type 0 where
  pub deep : 0 < room
  pub order : h.start ≤ h.bound
  pub within : h.bound ≤ length s
  pub small : length s ≤ stream_limit
  pub whole : Whole (value_of room s h).how
  pub mark : h.marked ≡ true → constructed h.code ≡ true

-- where a walk ended
abbrev pub end_of : End → ℕ
end_of (ends at) = at
end_of (stops number place) = 0

-- the normal form of the run from `at`
unfoldable pub normal_from : (room : ℕ) → List ℕ → (at limit : ℕ) → (marked : Bool) → List ℕ
normal_from room s at limit marked = normal_of (plain s (run room s at limit marked).items)

-- the normal form of the value of an item
unfoldable pub normal_in : (room : ℕ) → List ℕ → Header → List ℕ
normal_in room s h =
    cond (constructed h.code) (normal_from (room - 1) s h.start h.bound h.marked) (slice h.start h.bound s)

-- what a pass meets at `at`: an item, or none where the run ends
abbrev pub item_of : Head → Option Header
item_of (Item h) = Some h
item_of ClosingMark = None
item_of (Refusal number place) = None

unfoldable pub ahead_at : (room : ℕ) → List ℕ → (at limit : ℕ) → (marked : Bool) → Option Header
ahead_at room s at limit marked = cond (leb limit at) None (item_of (head_at s at limit marked room))

-- how many octets come before a value of so many in the normal form of an item: its type field and its length octets
abbrev pub header_size : (code size : ℕ) → ℕ
header_size code size = length (type_field code) + 1 + further_octets size

-- Octets from `from` on, whose walk ended so, were measured: where they end, how long their normal form is, and perhaps that they are
-- their own normal form already.
pub record Measures (s : List ℕ) (from : ℕ) (marked : Bool) (how : End) (form : List ℕ) (m : Measured) : Type 0 where
  pub past : m.next ≡ end_of how
  pub size : m.size ≡ length form
  pub own : m.shortest ≡ true → (form ≡ slice from (from + m.size) s) × (from + m.size ≡ past_of marked m.next)

abbrev pub RunMeasures : (room : ℕ) → List ℕ → (from limit : ℕ) → (marked : Bool) → Measured → Type 0
RunMeasures room s from limit marked m = Measures s from marked (run room s from limit marked).how (normal_from room s from limit marked) m

-- the whole stream, whose walk ended, was measured
abbrev pub StreamMeasures : List ℕ → Measured → Type 0
StreamMeasures s m = RunEnds deepest s 0 (length s) false × RunMeasures deepest s 0 (length s) false m

-- Only a constructed value may not be its own normal form.
pub record ValueMeasures (room : ℕ) (s : List ℕ) (h : Header) (m : Measured) : Type 0 where
  pub measures : Measures s h.start h.marked (value_of room s h).how (normal_in room s h) m
  pub inner : m.shortest ≡ false → constructed h.code ≡ true

-- Octets were written from begin up to past, and nothing else.
pub record PutsOctets (before : List ℕ) (begin : ℕ) (octets : List ℕ) (past : ℕ) (after : List ℕ) : Type 0 where
  pub to : past ≡ begin + length octets
  pub written : after ≡ sets before begin octets
