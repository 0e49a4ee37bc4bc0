-- `ranks::after` meets its contract: field by field; no sum wraps, since each count is small.
use mathlib.Core.Path.{◌∙◌}
use Rattle.order_a.proofs.Steps.{count-few, one-is}
use native.Mathlib.Omega.{arith}
use Rattle.order_a.specs.Step.{next}
use Rattle.order_a.proofs.ranks.after.Goals as goal

pub overflow_add-result : goal.overflow_add-result
overflow_add-result c = let a = c.args in omega (arith, count-few a.x.kind 1 5 a.x.lists, c.count_of.ensures, c.saturating_sub.ensures)

pub overflow_add-result-2 : goal.overflow_add-result-2
overflow_add-result-2 c = let a = c.args in omega (arith, count-few a.x.kind 2 6 a.x.lists, c.count_of-2.ensures, c.saturating_sub-2.ensures)

pub returns : goal.returns
unfolding next
returns c = rw (
  c.rank_of.ensures,
  c.saturating_sub.ensures,
  c.count_of.ensures,
  c.saturating_sub-2.ensures,
  c.count_of-2.ensures,
  c.from.ensures ∙ one-is c.args.x.ordered,
)
