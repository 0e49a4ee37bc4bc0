-- `turns::reach` meets its contract: the rows are counted in turn.
use Rattle.order_a.proofs.Reaching.{Counted}
use Rattle.order_a.proofs.turns.reach.Given as goal

abbrev pub invariant-loop-at : goal.invariant-loop-at
invariant-loop-at l = Counted l.s l.rows l.n l.kind l.row l.base l.at l.total
