-- `portions::has_repeats` meets its contract. The loop's invariant: the values from k on have no repeat, and their tags are marked.
use mathlib.Core.Path.{◌≡◌}
use mathlib.Core.Bool.{false}
use Prim.Native.Nat.{◌*◌}
use lib.ListN.{length}
use lib.Seq.{slice}
use Rattle.portions.specs.Portions.{repeats}
use Rattle.portions.specs.Bounds.{bounded}
use Rattle.portions.proofs.Tags.{Marked}
use Rattle.portions.proofs.has_repeats.Given as goal

abbrev pub invariant-loop-k : goal.invariant-loop-k
invariant-loop-k l = (length l.marks ≡ 64)
    × (repeats (bounded l.s (slice (2 * l.k) (2 * l.count) l.bounds)) ≡ false) × Marked l.s l.bounds l.count l.k l.marks
