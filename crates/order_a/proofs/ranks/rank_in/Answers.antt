-- `ranks::rank_in` meets its contract: the code's table is the definition's, and past it both give 13.
use mathlib.Core.Path.{◌∙◌}
use native.Mathlib.Omega.{arith}
use Rattle.order_a.proofs.Table.{in_table, past-table}
use Rattle.order_a.proofs.ranks.rank_in.Goals as goal

pub returns-then-kind-lt13 : goal.returns-then-kind-lt13
returns-then-kind-lt13 c = c.from.ensures ∙ in_table _ (omega arith)

pub returns-else-kind-lt13 : goal.returns-else-kind-lt13
returns-else-kind-lt13 c = past-table c.args.kind (omega arith)
