-- `sources::side::count_sources` meets its contract. The loop's invariant: the sources that are counted, and those of the lines that are left, are all.
--
use mathlib.Core.Path.{◌≡◌}
use Prim.Native.Nat.{◌+◌}
use lib.ListN.{length}
use Rattle.sources.specs.Units.{places_in}
use Rattle.sources.proofs.Sides.{sources_left}
use Rattle.sources.proofs.side.count_sources.Given as goal

abbrev pub invariant-loop-k : goal.invariant-loop-k
invariant-loop-k l =
    let left = sources_left (places_in l.edition l.s) l.numbers l.lines in l.total + length (left l.k) ≡ length (left 0)
