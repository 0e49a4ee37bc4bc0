-- `pieces::put_joined` meets its contract. The invariant of the loop is `PutSoFar`. The function ends, for each call has fewer levels
-- left.
use Prim.Native.Nat.{◌-◌}
use Rattle.pieces.proofs.Putting.{PutSoFar}
use Rattle.pieces.proofs.+put_joined.Given as goal

abbrev pub decreases-put_joined : goal.decreases-put_joined
decreases-put_joined l = l.r.room

abbrev pub invariant-loop-item : goal.invariant-loop-item
invariant-loop-item l = PutSoFar l.s l.initial.cur l.initial.out l.cur l.done l.out

abbrev pub decreases-loop-item : goal.decreases-loop-item
decreases-loop-item l = l.cur.limit - l.cur.at
