-- `calendar::two_number` meets its contract: two digits are at least 48 and at most 57.
use native.Mathlib.Omega.{arith}
use Rattle.calendar.proofs.Spelling.{two-bounds}
use Rattle.calendar.proofs.two_number.Goals as goal

pub overflow_sub-result : goal.overflow_sub-result
overflow_sub-result c = omega (arith, two-bounds c.args.v.now c.args.i c.requires.1)

pub overflow_sub-result-2 : goal.overflow_sub-result-2
overflow_sub-result-2 c = omega (arith, two-bounds c.args.v.now c.args.i c.requires.1)

pub overflow_mul-result : goal.overflow_mul-result
overflow_mul-result c = omega (arith, two-bounds c.args.v.now c.args.i c.requires.1)

pub overflow_add-result : goal.overflow_add-result
overflow_add-result c = omega (arith, two-bounds c.args.v.now c.args.i c.requires.1)
