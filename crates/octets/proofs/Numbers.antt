-- A walk refuses by a number from 2 to 8, at a place no further than the limit; and each of its items stands before the limit.
use mathlib.Core.Bool.{Bool}
use mathlib.Core.List.{List}
use Prim.Native.Nat.{ℕ, ◌<◌, ◌≤◌}
use native.Mathlib.Omega.{arith}
use Rattle.octets.specs.Walk.{Items, no_items, item, End, ends, stops, run}
use Rattle.octets.specs.Rules.{Runs, at_limit, unclosed, closes, refuses, primitive, passes, breaks}
use Rattle.headers.proofs.Conditions.{two-to-eight}
use Rattle.octets.proofs.Turns.{header_ok}
use Rattle.octets.proofs.RulesHold.{derives}

-- how a walk stops that has this limit
abbrev pub Stops : (limit : ℕ) → End → Type 0
Stops limit (ends at) = Unit {0}
Stops limit (stops number place) = (2 ≤ number) × (number ≤ 8) × (place ≤ limit)

stops-later : (limit bound : ℕ) (e : End) → bound ≤ limit → Stops bound e → Stops limit e
stops-later limit bound (ends at) l o = tt
stops-later limit bound (stops number place) l o = (o.0, o.1, omega arith)

stops-derived : {s : List ℕ} {room at limit : ℕ} {marked : Bool} {i : Items} {e : End} → Runs s room at limit marked i e → Stops limit e
stops-derived (at_limit p) = tt
stops-derived (unclosed p) = (omega arith, omega arith, omega arith)
stops-derived (closes l h) = tt
stops-derived {s} (refuses {room} {at} {limit} {marked} {number} {place} l h) =
    let (low, high) = two-to-eight s at limit marked room number h.refuses in
    let here = h.here in
    (low, high, omega arith)
stops-derived (primitive l h c r) = stops-derived r
stops-derived (passes l h c v r) = stops-derived r
stops-derived {s} (breaks {room} {at} {limit} {marked} {h} {inside} {number} {place} l p c v) =
    stops-later limit h.bound (stops number place) (header_ok s at limit room marked h p).within (stops-derived v)

pub run-stops : (room : ℕ) (s : List ℕ) (at limit : ℕ) (marked : Bool) → at ≤ limit → Stops limit (run room s at limit marked).how
run-stops room s at limit marked l = stops-derived (derives room s at limit marked l)

-- every top item stands before the limit
pub data Before (limit : ℕ) : Items → Type 0 where
  nothing : Before limit no_items
  stands : {at code start past : ℕ} {inside after : Items} → at < limit → Before limit after → Before limit (item at code start past inside after)

before-derived : {s : List ℕ} {room at limit : ℕ} {marked : Bool} {i : Items} {e : End} → Runs s room at limit marked i e → Before limit i
before-derived (at_limit p) = nothing
before-derived (unclosed p) = nothing
before-derived (closes l h) = nothing
before-derived (refuses l h) = nothing
before-derived (primitive l h c r) = stands l (before-derived r)
before-derived (passes l h c v r) = stands l (before-derived r)
before-derived (breaks l h c v) = stands l nothing

pub run-before : (room : ℕ) (s : List ℕ) (at limit : ℕ) (marked : Bool) → at ≤ limit → Before limit (run room s at limit marked).items
run-before room s at limit marked l = before-derived (derives room s at limit marked l)
