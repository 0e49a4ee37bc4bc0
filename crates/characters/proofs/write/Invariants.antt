-- `characters::write` meets its contract: what is written from the start on is what is written and that from here on.
use Prim.Native.Nat.{◌+◌, ◌-◌, ◌≤◌}
use mathlib.Core.Path.{◌≡◌}
use lib.ListN.{length, drop}
use lib.Seq.{sets}
use Rattle.characters.specs.Sets.{number_of}
use Rattle.characters.specs.Signs.{signs, utf8_of}
use Rattle.characters.proofs.write.Given as goal

abbrev pub invariant-loop-at : goal.invariant-loop-at
invariant-loop-at l = (l.at ≤ length l.octets) × (length l.out ≡ length l.initial.out)
    × (l.here + length (utf8_of (signs (number_of l.set) (drop l.at l.octets))) ≡ length (utf8_of (signs (number_of l.set) l.octets)))
    × (sets l.out l.here (utf8_of (signs (number_of l.set) (drop l.at l.octets))) ≡ sets l.initial.out 0 (utf8_of (signs (number_of l.set) l.octets)))

abbrev pub decreases-loop-at : goal.decreases-loop-at
decreases-loop-at l = length l.octets - l.at
