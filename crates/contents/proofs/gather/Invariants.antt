-- `contents::gather` meets its contract. The loop's invariant: what was gathered is what stood from the start up to here.
-- The measure is what is left of the run.
use Prim.Native.Nat.{◌-◌}
use Rattle.contents.proofs.Gathering.{Gathering}
use Rattle.contents.proofs.gather.Given as goal

abbrev pub invariant-loop-item : goal.invariant-loop-item
invariant-loop-item l = Gathering l.s l.sought l.initial.cur l.cur l.identifier l.logical l.portions l.barred

abbrev pub decreases-loop-item : goal.decreases-loop-item
decreases-loop-item l = l.cur.limit - l.cur.at
