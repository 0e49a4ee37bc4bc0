-- `answers::table::finish` meets its contract: the table is filled, or nothing is done.
use mathlib.Core.Path.{sym, ◌∙◌}
use native.Mathlib.Omega.{arith}
use Rattle.answers.proofs.Judging.{accepted-judged}
use Rattle.answers.proofs.Tabling.{table_filled}
use Rattle.answers.proofs.table.finish.Goals as goal

pub fill-requires : goal.fill-requires
fill-requires c =
    let l = accepted-judged c.requires.accepts.ended c.requires.letter_rows in
    let enough = c.requires.count_bound (sym c.is_finishing.ensures ∙ c.if-is_finishing.true) in
    record { letter_rows = (c.args.edition, c.requires.letter_rows); filed = c.requires.filed; count_le_most_elements = (l.few, omega (arith, enough)) }

pub returns-then-is_finishing : goal.returns-then-is_finishing
returns-then-is_finishing c =
    let l = accepted-judged c.requires.accepts.ended c.requires.letter_rows in
    let filled = table_filled l.held l.judged c.args.table.now _ c.fill.ensures in
    filled ∙ rw (sym c.is_finishing.ensures ∙ c.if-is_finishing.true)

pub returns-else-is_finishing : goal.returns-else-is_finishing
returns-else-is_finishing c = rw (sym c.is_finishing.ensures ∙ c.if-is_finishing.false)
