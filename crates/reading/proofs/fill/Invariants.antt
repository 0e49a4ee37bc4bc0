-- `reading::fill` meets its contract. The loop's invariant: after k turns the list has the first k records, and then what was there.
use mathlib.Core.Path.{◌≡◌}
use Rattle.reading.proofs.Made.{made}
use Rattle.reading.proofs.fill.Given as goal

abbrev pub invariant-loop-k : goal.invariant-loop-k
invariant-loop-k l = l.list ≡ made l.flat l.initial.list l.k
