-- `portions::read_portions` meets its contract. The loop's invariant: so many were read, and the rest of the run is left.
use mathlib.Core.Path.{◌≡◌}
use Prim.Native.Nat.{◌-◌}
use lib.ListN.{length}
use Rattle.portions.proofs.Reading.{Reads}
use Rattle.portions.proofs.read_portions.Given as goal

abbrev pub invariant-loop-item : goal.invariant-loop-item
invariant-loop-item l = (length l.bounds ≡ length l.initial.bounds) × Reads l.s l.initial.left l.left l.count l.misspelt l.bounds

abbrev pub decreases-loop-item : goal.decreases-loop-item
decreases-loop-item l = l.left.limit - l.left.at
