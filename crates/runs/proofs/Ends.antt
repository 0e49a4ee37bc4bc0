-- Where a run ends: an unmarked one at its limit, a marked one past a closing mark, by the rules of the walk.
use mathlib.Core.Path.{◌≡◌, refl, ap}
use mathlib.Core.Bool.{Bool, true, false, cond, false≢true}
use mathlib.Core.List.{List}
use Prim.Native.Nat.{ℕ, ◌+◌, ◌≤◌}
use native.Mathlib.Omega.{arith}
use Rattle.octets.specs.Walk.{Items, End, ends, stops, past_of, run}
use Rattle.octets.specs.Rules.{Runs, at_limit, unclosed, closes, refuses, primitive, passes, breaks}
use Rattle.octets.proofs.Turns.{header_ok}
use Rattle.octets.proofs.RulesHold.{derives}
use Rattle.tree.specs.Accepts.{Whole}
use Rattle.runs.proofs.Heads.{mark-marked}

-- a run from `at` that ended is at its limit, or past a closing mark
abbrev pub EndsRight : (marked : Bool) → (at limit : ℕ) → End → Type 0
EndsRight false at limit (ends next) = next ≡ limit
EndsRight true at limit (ends next) = at + 2 ≤ next
EndsRight marked at limit (stops number place) = Unit {0}

closes-right : (marked : Bool) (at limit : ℕ) → marked ≡ true → EndsRight marked at limit (ends (at + 2))
closes-right true at limit m = omega arith
closes-right false at limit m = absurd (false≢true m)

stops-right : (marked : Bool) (at limit number place : ℕ) → EndsRight marked at limit (stops number place)
stops-right true at limit number place = tt
stops-right false at limit number place = tt

later-right : (marked : Bool) (at next limit : ℕ) (e : End) → at ≤ next → EndsRight marked next limit e → EndsRight marked at limit e
later-right true at next limit (ends to) l r = omega arith
later-right false at next limit (ends to) l r = r
later-right marked at next limit (stops number place) l r = stops-right marked at limit number place

-- a value ends at its start or later
pub ends-later : (marked : Bool) (at limit next : ℕ) → at ≤ limit → EndsRight marked at limit (ends next) → at ≤ next
ends-later true at limit next l r = omega arith
ends-later false at limit next l r = omega arith

-- by the rules, a run ends so
pub right : {s : List ℕ} {room at limit : ℕ} {marked : Bool} {i : Items} {e : End} → Runs s room at limit marked i e → EndsRight marked at limit e
right (at_limit p) = refl
right (unclosed p) = tt
right {s} (closes {room} {at} {limit} {marked} l h) = closes-right marked at limit (mark-marked s at limit marked room h)
right (refuses {room} {at} {limit} {marked} {number} {place} l h) = stops-right marked at limit number place
right {s} (primitive {room} {at} {limit} {marked} {h} {after} {e} l p q r) =
    let o = header_ok s at limit room marked h p in
    later-right marked at h.bound limit e (omega arith) (right r)
right {s} (passes {room} {at} {limit} {marked} {h} {inside} {after} {next} {e} l p q v r) =
    let o = header_ok s at limit room marked h p in
    let n = ends-later h.marked h.start h.bound next o.order (right v) in
    later-right marked at next limit e (omega arith) (right r)
right (breaks {room} {at} {limit} {marked} {h} {inside} {number} {place} l p q v) = stops-right marked at limit number place

-- where the run inside an item ends, said by its value's end
pub past_next : (m : Bool) (start bound next : ℕ) → EndsRight m start bound (ends next) → next ≡ cond m (past_of m next + 2) (past_of m next)
past_next true start bound next r = omega arith
past_next false start bound next r = refl

pub ends-right : (room : ℕ) (s : List ℕ) (at limit : ℕ) (marked : Bool) → at ≤ limit → EndsRight marked at limit (run room s at limit marked).how
ends-right room s at limit marked l = right (derives room s at limit marked l)

-- an unmarked run that ends, ends at its limit
pub ends-at-limit : (at limit : ℕ) (e : End) → EndsRight false at limit e → Whole e → e ≡ ends limit
ends-at-limit at limit (ends next) r w = ap ends r
ends-at-limit at limit (stops number place) r w = absurd w
