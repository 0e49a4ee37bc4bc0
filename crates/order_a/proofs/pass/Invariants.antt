-- `order_a::pass` meets its contract: the rows are taken in turn.
use Rattle.order_a.proofs.Stepping.{Walking}
use Rattle.order_a.proofs.pass.Given as goal

abbrev pub invariant-loop-k : goal.invariant-loop-k
invariant-loop-k l = Walking l.s l.rows l.n l.k l.w
