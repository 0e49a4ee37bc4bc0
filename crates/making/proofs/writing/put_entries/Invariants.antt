-- `making::writing::put_entries` meets its contract: after k turns the first k entries are written.
use mathlib.Core.Path.{◌≡◌}
use lib.ListN.{length}
use Rattle.normal.specs.Passes.{PutsOctets}
use Rattle.making.specs.Flat.{said_up_to}
use Rattle.making.specs.Octets.{entries_octets}
use Rattle.making.proofs.writing.put_entries.Given as goal

abbrev pub invariant-loop-k : goal.invariant-loop-k
invariant-loop-k l = (length l.out ≡ length l.initial.out) × PutsOctets l.initial.out l.begin (entries_octets (said_up_to l.buffer l.numbers l.k)) l.at l.out
