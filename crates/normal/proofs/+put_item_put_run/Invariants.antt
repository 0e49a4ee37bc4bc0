-- The proof of the cycle of calls {put_item, put_run}, which ends as `walk_item` and `walk_run` do: 2 room + 1 for `put_run`, 2 room for
-- `put_item`. The invariant of the loop is `PutSoFar`.
use Prim.Native.Nat.{◌+◌, ◌-◌}
use Rattle.normal.proofs.Putting.{PutSoFar}
use Rattle.normal.proofs.+put_item_put_run.Given as goal

abbrev pub decreases-put_item : goal.decreases-put_item
decreases-put_item l = l.room + l.room

abbrev pub decreases-put_run : goal.decreases-put_run
decreases-put_run l = l.room + l.room + 1

abbrev pub invariant-put_run-loop-h : goal.invariant-put_run-loop-h
invariant-put_run-loop-h l = PutSoFar l.room l.s l.from l.limit l.marked l.initial.out l.begin l.at l.pos l.out

abbrev pub decreases-put_run-loop-h : goal.decreases-put_run-loop-h
decreases-put_run-loop-h l = l.limit - l.at
