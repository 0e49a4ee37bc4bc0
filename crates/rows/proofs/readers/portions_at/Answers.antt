-- `rows::readers::portions_at` meets its contract.
use mathlib.Core.Path.{ap}
use Rattle.rows.specs.Columns.{portions_run}
use Rattle.rows.proofs.readers.portions_at.Goals as goal

pub returns : goal.returns
returns c = ap portions_run c.bounds_at-bounds.ensures
