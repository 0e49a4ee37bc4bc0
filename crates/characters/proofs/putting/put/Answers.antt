-- `characters::putting::put` meets its contract: by the kind of the sign.
use native.Mathlib.Omega.{arith}
use mathlib.Core.Path.{ap}
use lib.ListN.{length}
use Rattle.characters.proofs.Utf8.{is-point, is-two, is_number}
use Rattle.characters.proofs.putting.put.Goals as goal

pub put_point-requires : goal.put_point-requires
put_point-requires c = omega (arith, ap length (is-point _ _ c.in-One.is))

pub put_two-requires : goal.put_two-requires
put_two-requires c = omega (arith, ap length (is-two _ _ _ c.in-Two.is))

pub put_number-requires : goal.put_number-requires
put_number-requires c = omega (arith, ap length (is_number _ _ c.in-Number.is))

pub returns-in-One : goal.returns-in-One
returns-in-One c = rw (is-point _ _ c.in-One.is) c.put_point.ensures

pub returns-in-Two : goal.returns-in-Two
returns-in-Two c = rw (is-two _ _ _ c.in-Two.is) c.put_two.ensures

pub returns-in-Number : goal.returns-in-Number
returns-in-Number c = rw (is_number _ _ c.in-Number.is) c.put_number.ensures
