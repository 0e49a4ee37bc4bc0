-- `calendar::day_at` meets its contract: the parts of a value that is spelt as a date, and the numbers in it are small.
use native.Mathlib.Omega.{arith}
use Rattle.calendar.proofs.Spelling.{spelt-parts, two-small}
use Rattle.calendar.proofs.day_at.Goals as goal

pub two_number-requires : goal.two_number-requires
two_number-requires c =
    let v = c.args.v.now in
    let p = spelt-parts v c.requires in
    (omega arith, p.century)

pub overflow_mul-result : goal.overflow_mul-result
overflow_mul-result c =
    let v = c.args.v.now in
    let p = spelt-parts v c.requires in
    omega (arith, two-small v 0 p.century, c.two_number.ensures)

pub two_number-requires-2 : goal.two_number-requires-2
two_number-requires-2 c =
    let v = c.args.v.now in
    let p = spelt-parts v c.requires in
    (omega arith, p.years)

pub overflow_add-result : goal.overflow_add-result
overflow_add-result c =
    let v = c.args.v.now in
    let p = spelt-parts v c.requires in
    omega (arith, two-small v 0 p.century, two-small v 2 p.years, c.two_number-2.ensures, c.two_number.ensures)

pub two_number-requires-3 : goal.two_number-requires-3
two_number-requires-3 c =
    let v = c.args.v.now in
    let p = spelt-parts v c.requires in
    (omega arith, p.month)

pub two_number-requires-4 : goal.two_number-requires-4
two_number-requires-4 c =
    let v = c.args.v.now in
    let p = spelt-parts v c.requires in
    (omega arith, p.day)
