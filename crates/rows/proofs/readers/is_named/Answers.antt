-- `rows::readers::is_named` meets its contract.
use mathlib.Core.Path.{ap, ◌∙◌}
use Rattle.rows.specs.Columns.{there}
use Rattle.rows.proofs.readers.is_named.Goals as goal

pub returns : goal.returns
returns c = c.is_there.ensures ∙ ap there c.bounds_at.ensures
