-- `answers::table::fill` meets its contract: the rows are put in turn.
use Rattle.answers.proofs.Tabling.{Filling}
use Rattle.answers.proofs.table.fill.Given as goal

abbrev pub invariant-loop-j : goal.invariant-loop-j
invariant-loop-j l = Filling l.s l.rows l.count l.initial.table l.table l.j
