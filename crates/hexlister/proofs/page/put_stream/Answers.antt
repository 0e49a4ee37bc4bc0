-- `page::put_stream` meets its contract: the table is lent as zeros, and the check's number decides.
use native.Mathlib.Omega.{arith}
use Rattle.hexlister.proofs.Pages.{puts-as, puts-within}
use Rattle.hexlister.proofs.Letters.{refused-lines, accepted-lines}
use Rattle.hexlister.proofs.page.put_stream.Goals as goal

pub returns-then-answer-ne0 : goal.returns-then-answer-ne0
returns-then-answer-ne0 c =
    puts-within (puts-as (refused-lines c.args.stream.now c.check-answer.ensures.answered c.if-answer-ne0.true) c.put_refused.ensures)
    (omega arith)

pub returns : goal.returns
returns c =
    puts-as (accepted-lines c.args.stream.now c.check-answer.ensures.answered c.if-answer-ne0.false) c.put_letter.ensures
