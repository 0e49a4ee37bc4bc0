-- `sources::unit::count_unit` meets its contract: what holds the content of an element has its places, and an element that isn't there has none.
use mathlib.Core.Path.{ap, sym, ◌∙◌}
use lib.ListN.{length}
use Rattle.sources.proofs.Holders.{unit-places, unit-here}
use Rattle.sources.proofs.Sides.{no-unit-places}
use Rattle.sources.proofs.unit.count_unit.Goals as goal

pub count_held-requires : goal.count_held-requires
count_held-requires c = unit-here c.content_of.ensures

pub returns-then-unit-count : goal.returns-then-unit-count
returns-then-unit-count c = c.count_held.ensures ∙ ap length (unit-places c.content_of.ensures)

pub returns : goal.returns
returns c = sym (ap length (no-unit-places c.requires.1 c.args.unit c.if-unit-count.false))
