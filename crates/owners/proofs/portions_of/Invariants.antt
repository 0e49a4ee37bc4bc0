-- `owners::portions_of` meets its contract: each portion that is met is counted.
use Prim.Native.Nat.{◌-◌}
use Rattle.owners.proofs.Telling.{Left}
use Rattle.owners.proofs.portions_of.Given as goal

abbrev pub invariant-loop-item : goal.invariant-loop-item
invariant-loop-item l = Left l.s l.rows l.j l.left l.count

abbrev pub decreases-loop-item : goal.decreases-loop-item
decreases-loop-item l = l.left.limit - l.left.at
