-- `answers::children::put_children` meets its contract: what is put, and then those that are left, is all.
use Rattle.answers.proofs.Tabling.{Putting}
use Rattle.answers.proofs.children.put_children.Given as goal

abbrev pub invariant-loop-j : goal.invariant-loop-j
invariant-loop-j l = Putting l.table l.count l.row l.initial.list l.list l.j l.found
