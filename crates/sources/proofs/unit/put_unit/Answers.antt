-- `sources::unit::put_unit` meets its contract: what holds the content of an element has its places, and an element that isn't there has none.
use mathlib.Core.Path.{ap, sym}
use native.Mathlib.Omega.{arith}
use lib.ListN.{length}
use Rattle.sources.proofs.Holders.{unit-places, unit-here, puts-same, puts_none}
use Rattle.sources.proofs.Sides.{no-unit-places}
use Rattle.sources.proofs.unit.put_unit.Goals as goal

pub put_held-requires : goal.put_held-requires
put_held-requires c =
    let held = c.content_of.ensures in
    record { held_here = (unit-here held, c.requires.fine.2); held_in_bounds = omega (arith, ap length (unit-places held), c.requires.unit_in_bounds) }

pub returns-then-unit-count : goal.returns-then-unit-count
returns-then-unit-count c =
    let a = c.args in
    let told = puts-same a.line c.put_held.result _ _ _ _ (sym (unit-places c.content_of.ensures)) (c.put_held.ensures.value, c.put_held.ensures.list_after) in
    record { value = told.0; list_after = told.1 }

pub returns : goal.returns
returns c =
    let a = c.args in
    let told = puts-same a.line 0 _ _ _ _ (no-unit-places c.requires.fine.1 a.unit c.if-unit-count.false) (puts_none a.line a.list.now) in
    record { value = told.0; list_after = told.1 }
