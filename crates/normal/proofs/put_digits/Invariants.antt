-- `normal::put_digits` meets its contract: what is left to write, below the digits that are written, makes of the output what all of it made of the
-- output as it was.
use mathlib.Core.Path.{◌≡◌}
use lib.Seq.{sets}
use Rattle.normal.specs.Normal.{number_octets}
use Rattle.normal.proofs.put_digits.Given as goal

abbrev pub invariant-loop-i : goal.invariant-loop-i
invariant-loop-i l = sets l.initial.out l.at (number_octets l.k l.n) ≡ sets l.out l.at (number_octets l.i l.left)
