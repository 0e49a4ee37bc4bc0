-- `answers::check_judged` meets its contract: what the judge left says what the letter is, and the rest is the check of that.
use mathlib.Core.Path.{◌∙◌}
use native.Mathlib.Omega.{arith}
use Rattle.answers.proofs.Judging.{accepted-judged}
use Rattle.answers.proofs.Checks.{checks_16, checks-letter}
use Rattle.answers.proofs.Tabling.{table_filled}
use Rattle.answers.proofs.check_judged.Goals as goal

pub returns-then-table-count : goal.returns-then-table-count
returns-then-table-count c =
    let l = accepted-judged c.requires.stream_value c.requires.letter_rows in
    let r = checks_16 c.args.edition c.args.stream.now c.args.table.now c.args.headers l.held.elements l.judged
    (omega (arith, l.held.holds.counted)) in
    record { answered = c.refused_check.ensures ∙ r.answered; tabled = r.tabled }

pub fill-requires : goal.fill-requires
fill-requires c =
    let l = accepted-judged c.requires.stream_value c.requires.letter_rows in
    record { letter_rows = (c.args.edition, c.requires.letter_rows); filed = c.requires.filed; count_le_most_elements = (l.few, omega arith) }

pub overflow_cast-result : goal.overflow_cast-result
overflow_cast-result c =
    let l = accepted-judged c.requires.stream_value c.requires.letter_rows in
    omega (arith, l.few)

pub returns : goal.returns
returns c =
    let l = accepted-judged c.requires.stream_value c.requires.letter_rows in
    let table = c.args.table.now in
    let r = checks-letter c.args.edition c.args.stream.now table c.args.headers _ l.held.elements l.judged
    l.held.holds.counted (omega arith) in
    record {
      answered = r.answered;
      tabled = table_filled l.held l.judged table _ c.fill.ensures ∙ r.tabled;
    }
