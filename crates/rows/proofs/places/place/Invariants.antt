-- `rows::places::place` meets its contract. The loop's invariant: what stands before `low` does not come after what is asked for, what stands
-- from `high` on does. The measure is how many stand between.
use mathlib.Core.List.{◌∷◌}
use Prim.Native.Nat.{◌-◌}
use Rattle.names.specs.Asked.{spelling}
use Rattle.rows.specs.Lookup.{Between}
use Rattle.rows.proofs.places.place.Given as goal

abbrev pub invariant-loop-low : goal.invariant-loop-low
invariant-loop-low l = Between l.s l.rows l.column l.next l.from l.n (l.space ∷ spelling l.asked) l.low l.high

abbrev pub decreases-loop-low : goal.decreases-loop-low
decreases-loop-low l = l.high - l.low
