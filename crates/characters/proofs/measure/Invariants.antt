-- `characters::measure` meets its contract: the sizes from the start on are what is counted and those from here on.
use Prim.Native.Nat.{◌+◌, ◌-◌, ◌≤◌}
use mathlib.Core.Path.{◌≡◌}
use lib.ListN.{length, drop}
use Rattle.characters.specs.Sets.{number_of}
use Rattle.characters.specs.Signs.{signs, utf8_of, numbers_in}
use Rattle.characters.proofs.measure.Given as goal

abbrev pub invariant-loop-at : goal.invariant-loop-at
invariant-loop-at l = (l.at ≤ length l.octets) × (l.here ≤ l.room) × (l.numbers ≤ l.here)
    × (l.here + length (utf8_of (signs (number_of l.set) (drop l.at l.octets))) ≡ length (utf8_of (signs (number_of l.set) l.octets)))
    × (l.numbers + numbers_in (signs (number_of l.set) (drop l.at l.octets)) ≡ numbers_in (signs (number_of l.set) l.octets))

abbrev pub decreases-loop-at : goal.decreases-loop-at
decreases-loop-at l = length l.octets - l.at
