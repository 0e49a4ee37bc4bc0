-- `sources::put_places` meets its contract. The invariant of the loop is `PutSoFar`. The function ends, for each call has fewer levels left.
--
use Prim.Native.Nat.{◌-◌}
use Rattle.sources.proofs.Putting.{PutSoFar}
use Rattle.sources.proofs.+put_places.Given as goal

abbrev pub decreases-put_places : goal.decreases-put_places
decreases-put_places l = l.r.room

abbrev pub invariant-loop-item : goal.invariant-loop-item
invariant-loop-item l = PutSoFar l.s l.line l.initial.cur l.initial.list l.cur l.done l.list

abbrev pub decreases-loop-item : goal.decreases-loop-item
decreases-loop-item l = l.cur.limit - l.cur.at
