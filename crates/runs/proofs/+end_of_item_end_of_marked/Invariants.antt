-- The proof of the cycle of calls {end_of_item, end_of_marked}. `end_of_marked` at room calls `end_of_item` at the same room, and that calls
-- `end_of_marked` at room - 1, so `end_of_item`'s measure lies between: 2 room + 1 for `end_of_marked`, 2 room for `end_of_item`.
-- The invariant of the loop: the run from its start ends as it does from `at`.
use mathlib.Core.Path.{◌≡◌}
use mathlib.Core.Bool.{true}
use Prim.Native.Nat.{ℕ, ◌+◌, ◌-◌}
use Rattle.octets.specs.Walk.{run}
use Rattle.runs.specs.declared.Run.{Run}
use Rattle.runs.specs.Runs.{Fine}
use Rattle.runs.proofs.+end_of_item_end_of_marked.Given as goal

-- the rest of a marked run
abbrev pub rest_at : (at limit room : ℕ) → Run
rest_at at limit room = record { at = at; limit = limit; marked = true; room = room }

abbrev pub decreases-end_of_item : goal.decreases-end_of_item
decreases-end_of_item l = l.room + l.room

abbrev pub decreases-end_of_marked : goal.decreases-end_of_marked
decreases-end_of_marked l = l.room + l.room + 1

abbrev pub invariant-end_of_marked-loop-h : goal.invariant-end_of_marked-loop-h
invariant-end_of_marked-loop-h l = Fine l.s (rest_at l.at l.limit l.room) × ((run l.room l.s l.from l.limit true).how ≡ (run l.room l.s l.at l.limit true).how)

abbrev pub decreases-end_of_marked-loop-h : goal.decreases-end_of_marked-loop-h
decreases-end_of_marked-loop-h l = l.limit - l.at
