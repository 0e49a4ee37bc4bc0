-- `making::writing::measure` meets its contract: after k turns the size is that of the first k entries.
use mathlib.Core.Path.{◌≡◌}
use Rattle.making.specs.Octets.{capped}
use Rattle.making.specs.Lent.{size_up_to}
use Rattle.making.proofs.writing.measure.Given as goal

abbrev pub invariant-loop-k : goal.invariant-loop-k
invariant-loop-k l = l.size ≡ capped (size_up_to l.numbers l.k)
