-- `pm1::put_pages` meets its contract: each element that is met puts its record, if it is a page. The measure is what is left of the run.
use Prim.Native.Nat.{◌-◌}
use Rattle.pm1.proofs.Going.{Going}
use Rattle.pm1.proofs.put_pages.Given as goal

abbrev pub invariant-loop-item : goal.invariant-loop-item
invariant-loop-item l = Going l.stream l.table l.initial.list l.list l.left l.element l.count

abbrev pub decreases-loop-item : goal.decreases-loop-item
decreases-loop-item l = l.left.limit - l.left.at
