-- `reading::put_found` meets its contract: a unit that was found makes one record, none makes none.
use native.Mathlib.Omega.{arith}
use Rattle.reading.proofs.Putting.{puts_none}
use Rattle.reading.proofs.put_found.Goals as goal

pub put_record-requires : goal.put_record-requires
put_record-requires c =
    let r = rw c.in-Some.is at c.requires.found_in_bounds in
    let b = rw c.in-Some.is at c.requires.element_bound.2 in
    record { k_in_bounds = omega (arith, r); element_bound = (c.requires.element_bound.0, c.requires.element_bound.1, b) }

pub returns-in-Some : goal.returns-in-Some
returns-in-Some c = rw c.in-Some.is c.put_record.ensures

pub returns-in-None : goal.returns-in-None
returns-in-None c = rw c.in-None.is (puts_none c.args.flat.now c.args.count)
