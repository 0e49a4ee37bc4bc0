-- `normal::header_size` meets its contract: a type field has at most three octets, and at most four length octets follow the first.
use native.Mathlib.Omega.{arith}
use Rattle.headers.proofs.Fields.{field-size}
use Rattle.normal.proofs.Lengths.{further-le}
use Rattle.normal.proofs.header_size.Goals as goal

pub overflow_add-result : goal.overflow_add-result
overflow_add-result c = omega (arith, c.field_size.ensures, (field-size c.args.code).1)

pub overflow_add-result-2 : goal.overflow_add-result-2
overflow_add-result-2 c =
    let a = c.args in
    omega (arith, c.field_size.ensures, (field-size a.code).1, c.further_octets.ensures, further-le a.size)

pub returns : goal.returns
returns c = rw (c.field_size.ensures, c.further_octets.ensures)
