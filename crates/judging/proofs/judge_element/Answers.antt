-- `judging::judge_element` meets its contract: a run that is over has no items.
use mathlib.Core.Path.{sym, ◌∙◌}
use native.Mathlib.Omega.{arith}
use borrow.Author.Tests.{eqb-true}
use Rattle.runs.specs.Runs.{items_of, tops}
use Rattle.runs.proofs.Laws.{no-tops}
use Rattle.judging.proofs.judge_element.Goals as goal

pub is_over-requires : goal.is_over-requires
is_over-requires c = c.requires.fine.0

pub judge_bare-requires : goal.judge_bare-requires
judge_bare-requires c = (c.may_be_bare.ensures c.if-may_be_bare.true, omega arith)

pub returns-then-may_be_bare : goal.returns-then-may_be_bare
returns-then-may_be_bare c =
    let items = items_of c.args.s.now c.args.item.inner in
    let none-there = no-tops items (eqb-true (tops items) 0 (sym c.is_over.ensures ∙ c.if-is_over.true)) in
    c.judge_bare.ensures _ _ _ none-there c.requires.fine.3
