-- `odif::normal_short` meets its contract: what is over its limit or refused by the rules is refused, and of a letter the writer's answer is
-- given.
use mathlib.Core.Path.{ap, sym, ◌∙◌, subst}
use Rattle.normal.specs.Writes.{Answer}
use Rattle.answers.specs.Asking.{written_as}
use Rattle.answers.proofs.Working.{is_letter}
use Rattle.odif.proofs.Writing.{Fits, refused, letter-whole}
use Rattle.odif.proofs.Short.{short-over, short-refused, short-letter}
use Rattle.odif.proofs.mailroom.normal_short.Goals as goal

pub returns-then-stream-gt-SHORT_LIMIT : goal.returns-then-stream-gt-SHORT_LIMIT
returns-then-stream-gt-SHORT_LIMIT c =
    let a = c.args in rw c.unwritten.ensures (short-over a.edition a.stream.now a.out.now c.if-stream-gt-SHORT_LIMIT.true)

pub returns-in-Err : goal.returns-in-Err
returns-in-Err c =
    let a = c.args in
    let (is, some) = c.in-Err.ensures in
    rw c.unwritten-in-Err.ensures (short-refused a.edition a.stream.now a.out.now c.if-stream-gt-SHORT_LIMIT.false _ _
    (refused a.edition a.stream.now c.in-Err.why is some))

pub write_short-requires : goal.write_short-requires
write_short-requires c =
    let a = c.args in
    (c.if-stream-gt-SHORT_LIMIT.false, (letter-whole a.edition a.stream.now (is_letter a.edition a.stream.now c.in_default.ensures)).1)

pub written_as-requires : goal.written_as-requires
written_as-requires c =
    let a = c.args in
    let l = c.if-stream-gt-SHORT_LIMIT.false in
    let p = is_letter a.edition a.stream.now c.in_default.ensures in
    subst (λ (x : Answer). Fits (written_as x)) (sym c.write_short.ensures.answered)
    (short-letter a.edition a.stream.now a.out.now l p).1

pub returns : goal.returns
returns c =
    let a = c.args in
    let l = c.if-stream-gt-SHORT_LIMIT.false in
    let p = is_letter a.edition a.stream.now c.in_default.ensures in
    let g = c.write_short.ensures in
    let w = (short-letter a.edition a.stream.now a.out.now l p).0 in
    record { answered = c.written_as.ensures ∙ ap written_as g.answered ∙ w.answered; put = g.output ∙ w.put }
