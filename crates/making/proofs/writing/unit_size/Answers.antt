-- `making::writing::unit_size` meets its contract: at most four length octets follow the first.
use native.Mathlib.Omega.{arith}
use Rattle.normal.proofs.Lengths.{further-le}
use Rattle.making.proofs.writing.unit_size.Goals as goal

pub overflow_add-result-2 : goal.overflow_add-result-2
overflow_add-result-2 c = omega (arith, c.further_octets.ensures, further-le c.args.text)

pub overflow_add-result-3 : goal.overflow_add-result-3
overflow_add-result-3 c = omega (arith, c.further_octets.ensures, further-le c.args.text)

pub overflow_add-result-4 : goal.overflow_add-result-4
overflow_add-result-4 c = omega (arith, c.further_octets.ensures, further-le c.args.text)

pub returns : goal.returns
returns c = rw c.further_octets.ensures
