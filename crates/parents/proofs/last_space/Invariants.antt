-- `parents::last_space` meets its contract. The loop's invariant: no space stands in what is passed.
use mathlib.Core.Path.{◌≡◌}
use Prim.Native.Nat.{◌≤◌}
use lib.Seq.{slice}
use Rattle.contents.specs.Search.{absent}
use Rattle.parents.specs.Parent.{shorter}
use Rattle.parents.proofs.last_space.Given as goal

abbrev pub invariant-loop-at : goal.invariant-loop-at
invariant-loop-at l = (l.first ≤ l.at) × (shorter (slice l.at l.past l.s) ≡ absent)
