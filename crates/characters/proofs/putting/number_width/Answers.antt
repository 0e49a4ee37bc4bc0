-- `characters::putting::number_width` meets its contract: two brackets of three octets and two digits.
use native.Mathlib.Omega.{arith}
use mathlib.Core.Path.{sym}
use Rattle.characters.proofs.Utf8.{number-long}
use Rattle.characters.proofs.putting.number_width.Goals as goal

pub returns : goal.returns
returns c = sym (number-long c.args.octet (omega arith))
