-- `odif::normal` meets its contract: what is refused by rules 1 to 15 is refused, and of a letter the writer's answer is given.
use mathlib.Core.Path.{ap, sym, ◌∙◌, subst}
use Rattle.normal.specs.Writes.{Answer}
use Rattle.answers.specs.Asking.{written_as}
use Rattle.answers.proofs.Working.{is_letter}
use Rattle.odif.proofs.Writing.{Fits, refused, letter-whole, writes-refused, writes-letter}
use Rattle.odif.proofs.normal.Goals as goal

pub returns-in-Err : goal.returns-in-Err
returns-in-Err c =
    let a = c.args in
    let (is, some) = c.in-Err.ensures in
    rw c.unwritten.ensures (writes-refused a.edition a.stream.now a.out.now _ _ (refused a.edition a.stream.now c.in-Err.why is some))

pub write-requires : goal.write-requires
write-requires c = let a = c.args in letter-whole a.edition a.stream.now (is_letter a.edition a.stream.now c.in_default.ensures)

pub written_as-requires : goal.written_as-requires
written_as-requires c =
    let a = c.args in
    let p = is_letter a.edition a.stream.now c.in_default.ensures in
    subst (λ (x : Answer). Fits (written_as x)) (sym c.write.ensures.answered)
    (writes-letter a.edition a.stream.now a.out.now p).1

pub returns : goal.returns
returns c =
    let a = c.args in
    let p = is_letter a.edition a.stream.now c.in_default.ensures in
    let g = c.write.ensures in
    let w = (writes-letter a.edition a.stream.now a.out.now p).0 in
    record { answered = c.written_as.ensures ∙ ap written_as g.answered ∙ w.answered; put = g.output ∙ w.put }
