-- The proof of the cycle of calls {walk_item, walk_run}. `walk_run` at room calls `walk_item` at the same room, and that calls `walk_run` at
-- room - 1, so `walk_item`'s measure lies between: 2 room + 1 for `walk_run`, 2 room for `walk_item`.
-- The invariant of the loop: the answer of the run from its start is the answer of the run from `at`, with the items counted so far.
use mathlib.Core.Path.{◌≡◌}
use Prim.Native.Nat.{◌+◌, ◌-◌, ◌≤◌}
use Rattle.octets.specs.Walk.{run, answer}
use Rattle.octets.specs.Further.{plus}
use Rattle.octets.proofs.+walk_item_walk_run.Given as goal

abbrev pub decreases-walk_item : goal.decreases-walk_item
decreases-walk_item l = l.room + l.room

abbrev pub decreases-walk_run : goal.decreases-walk_run
decreases-walk_run l = l.room + l.room + 1

abbrev pub invariant-walk_run-loop-at : goal.invariant-walk_run-loop-at
invariant-walk_run-loop-at l = (l.at ≤ l.limit)
    × (l.from + (l.count + l.count) ≤ l.at)
    × (answer (run l.room l.s l.from l.limit l.marked) ≡ plus l.count (answer (run l.room l.s l.at l.limit l.marked)))

abbrev pub decreases-walk_run-loop-at : goal.decreases-walk_run-loop-at
decreases-walk_run-loop-at l = l.limit - l.at
