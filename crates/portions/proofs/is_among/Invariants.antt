-- `portions::is_among` meets its contract. The loop's invariant: the value k stands after itself exactly if it stands from j on.
use mathlib.Core.Path.{◌≡◌}
use Prim.Native.Nat.{◌+◌, ◌*◌}
use lib.Seq.{slice}
use Rattle.portions.specs.Portions.{among}
use Rattle.portions.specs.Bounds.{bounded_at, bounded, Inside}
use Rattle.portions.proofs.is_among.Given as goal

abbrev pub invariant-loop-j : goal.invariant-loop-j
invariant-loop-j l = Inside l.s (slice (2 * l.j) (2 * l.count) l.bounds)
    × (among (bounded_at l.s l.bounds l.k) (bounded l.s (slice (2 * (l.k + 1)) (2 * l.count) l.bounds))
    ≡ among (bounded_at l.s l.bounds l.k) (bounded l.s (slice (2 * l.j) (2 * l.count) l.bounds)))
