-- `reading::list_portions` meets its contract: each portion that is met yields its match, if there is one. The measure is what is left of
-- the run.
use Prim.Native.Nat.{◌-◌}
use Rattle.reading.proofs.Listing.{Listing}
use Rattle.reading.proofs.list_portions.Given as goal

abbrev pub invariant-loop-item : goal.invariant-loop-item
invariant-loop-item l = Listing l.fn.side l.s l.rows l.n l.element l.initial.flat l.count l.flat l.left l.place l.total

abbrev pub decreases-loop-item : goal.decreases-loop-item
decreases-loop-item l = l.left.limit - l.left.at
