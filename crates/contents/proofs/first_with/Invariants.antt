-- `contents::first_with` meets its contract. The loop's invariant: a search from the start is one from here. The measure is what is left of
-- the run.
use Prim.Native.Nat.{◌-◌}
use Rattle.runs.specs.Runs.{Fine}
use Rattle.contents.proofs.Firsts.{Alike}
use Rattle.contents.proofs.first_with.Given as goal

abbrev pub invariant-loop-item : goal.invariant-loop-item
invariant-loop-item l = Fine l.s l.cur × Alike l.s l.sought l.initial.cur l.cur

abbrev pub decreases-loop-item : goal.decreases-loop-item
decreases-loop-item l = l.cur.limit - l.cur.at
