-- `scratch::text::text_by` meets its contract: the numbers are enough for each element, and the lines are filled from them.
use native.Mathlib.Omega.{arith}
use borrow.Author.Tests.{leb-true}
use Rattle.answers.proofs.TextSteps.{lines-put}
use Rattle.answers.proofs.Working.{text-told}
use Rattle.scratch.proofs.Arrays.{text-room}
use Rattle.scratch.proofs.text.text_by.Goals as goal

pub ask_walked-told-requires : goal.ask_walked-told-requires
ask_walked-told-requires g c =
    let a = c.args in record {
      outcome = c.requires.sized.outcome;
      enough = λ few. omega (arith, leb-true _ _ few, c.requires.sized.enough);
      roomy = text-room a.stream.now a.walked a.side _ _ c.requires.sized.enough;
    }

pub fill_lines-requires : goal.fill_lines-requires
fill_lines-requires g c =
    let flat = (text-told c.from-answer.ensures c.ask_walked-told.ensures).lined in
    (flat.fits, omega (arith, flat.enough))

pub returns : goal.returns
returns g c =
    let x = c.args in
    lines-put x.edition x.side x.stream.now x.table.now x.lines.now x.out.now
    (text-told c.from-answer.ensures c.ask_walked-told.ensures) c.fill_lines.ensures
