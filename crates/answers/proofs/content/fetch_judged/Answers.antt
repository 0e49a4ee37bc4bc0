-- `answers::content::fetch_judged` meets its contract: what the judge left says what the letter is, and a row where its element stands.
use native.Mathlib.Omega.{arith}
use Rattle.runs.proofs.Laws.{stream-fine}
use Rattle.answers.proofs.Judging.{accepted-judged}
use Rattle.answers.proofs.Fetching.{finds-missing, finds-at}
use Rattle.answers.proofs.content.fetch_judged.Goals as goal

pub content_at-requires : goal.content_at-requires
content_at-requires c =
    let l = accepted-judged c.requires.accepts.ended c.requires.letter_rows in
    record {
      fine = stream-fine c.args.stream.now _ _ c.requires.accepts.ended;
      element_bound = (omega (arith, l.few), (c.args.count, c.requires.letter_rows, omega arith));
    }

pub returns-then-element-count : goal.returns-then-element-count
returns-then-element-count c =
    let l = accepted-judged c.requires.accepts.ended c.requires.letter_rows in
    finds-at c.args.edition c.args.stream.now c.args.element l (omega arith) c.content_at.ensures

pub returns : goal.returns
returns c =
    let l = accepted-judged c.requires.accepts.ended c.requires.letter_rows in
    finds-missing c.args.edition c.args.stream.now c.args.element l (omega arith)
