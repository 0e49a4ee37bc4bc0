-- `dates::found_from` meets its contract. The loop's invariant: `had` tells what the part of the run that is passed has on the path.
-- The function ends, for each call is one octet further on the path.
use Prim.Native.Nat.{◌-◌}
use Rattle.runs.specs.Runs.{Fine}
use Rattle.dates.proofs.Places.{SoFar}
use Rattle.dates.proofs.+found_from.Given as goal

abbrev pub decreases-found_from : goal.decreases-found_from
decreases-found_from l = l.level

abbrev pub invariant-loop-item : goal.invariant-loop-item
invariant-loop-item l = Fine l.s l.cur × SoFar l.s l.level l.initial.cur l.cur l.had

abbrev pub decreases-loop-item : goal.decreases-loop-item
decreases-loop-item l = l.cur.limit - l.cur.at
