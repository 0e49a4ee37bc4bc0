-- The proof of the cycle of calls {measure_item, measure_run}, which ends as `walk_item` and `walk_run` do: 2 room + 1 for `measure_run`,
-- 2 room for `measure_item`. The invariant of the loop is `Counted`.
use Prim.Native.Nat.{◌+◌, ◌-◌}
use Rattle.normal.proofs.Measuring.{Counted}
use Rattle.normal.proofs.+measure_item_measure_run.Given as goal

abbrev pub decreases-measure_item : goal.decreases-measure_item
decreases-measure_item l = l.room + l.room

abbrev pub decreases-measure_run : goal.decreases-measure_run
decreases-measure_run l = l.room + l.room + 1

abbrev pub invariant-measure_run-loop-h : goal.invariant-measure_run-loop-h
invariant-measure_run-loop-h l = Counted l.room l.s l.from l.limit l.marked l.at l.size l.shortest

abbrev pub decreases-measure_run-loop-h : goal.decreases-measure_run-loop-h
decreases-measure_run-loop-h l = l.limit - l.at
