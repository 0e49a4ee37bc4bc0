-- `characters::steps::plain_end` meets its contract: the run from a place on is the octet there and the run past it.
use Prim.Native.Nat.{◌+◌}
use mathlib.Core.Path.{◌≡◌}
use lib.ListN.{length, drop}
use Rattle.characters.specs.Steps.{plain_front}
use Rattle.characters.proofs.steps.plain_end.Given as goal

-- the end of the run from the start on is that from here on
abbrev pub invariant-loop-end : goal.invariant-loop-end
invariant-loop-end l = l.end + length (plain_front (drop l.end l.octets)) ≡ l.at + length (plain_front (drop l.at l.octets))
