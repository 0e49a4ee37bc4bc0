-- `odif::normal_short_lent` meets its contract: what is over its limit, what is refused by the rules and scratch that is too small are refused,
-- and of a letter the writer's answer is given.
use mathlib.Core.Path.{ap, sym, ◌∙◌, subst}
use Rattle.normal.specs.Writes.{Answer}
use Rattle.answers.specs.Asking.{written_as}
use Rattle.answers.proofs.Working.{IsLetter}
use Rattle.odif.proofs.Writing.{Fits, letter-whole}
use Rattle.odif.proofs.Short.{short-letter}
use Rattle.odif.proofs.Lent.{as_short, lent-over, enough, lent-refused, lent-enough, lent-passed}
use Rattle.odif.proofs.mailroom.normal_short_lent.Goals as goal
use Rattle.odif.proofs.mailroom.normal_short_lent.Goals.{Else-why-ne0}

pub returns-then-stream-gt-SHORT_LIMIT : goal.returns-then-stream-gt-SHORT_LIMIT
returns-then-stream-gt-SHORT_LIMIT c = let a = c.args in rw c.unwritten.ensures (lent-over a.edition a.stream.now a.out.now _ _ c.if-stream-gt-SHORT_LIMIT.true)

pub returns-then-why-ne0 : goal.returns-then-why-ne0
returns-then-why-ne0 c =
    let a = c.args in
    let r = c.refused_by-why in
    rw c.unwritten-then-why-ne0.ensures (lent-refused a.edition a.stream.now a.out.now _ _ c.if-stream-gt-SHORT_LIMIT.false r.result r.ensures c.if-why-ne0.true)

-- the stream is a letter
letter-by : (c : Else-why-ne0) → let a = c.args in IsLetter a.edition a.stream.now
letter-by c =
    let a = c.args in
    let r = c.refused_by-why in
    lent-passed a.edition a.stream.now a.out.now _ _ c.if-stream-gt-SHORT_LIMIT.false r.result r.ensures c.if-why-ne0.false

pub write_short-requires : goal.write_short-requires
write_short-requires c =
    let a = c.args in
    (c.if-stream-gt-SHORT_LIMIT.false, (letter-whole a.edition a.stream.now (letter-by (goal.at.write_short-requires c).Else-why-ne0)).1)

pub written_as-requires : goal.written_as-requires
written_as-requires c =
    let a = c.args in
    let p = letter-by (goal.at.written_as-requires c).Else-why-ne0 in
    subst (λ (x : Answer). Fits (written_as x)) (sym c.write_short.ensures.answered)
    (short-letter a.edition a.stream.now a.out.now c.if-stream-gt-SHORT_LIMIT.false p).1

pub returns : goal.returns
returns c =
    let a = c.args in
    let l = c.if-stream-gt-SHORT_LIMIT.false in
    let r = c.refused_by-why in
    let g = c.write_short.ensures in
    let w = (short-letter a.edition a.stream.now a.out.now l (letter-by (goal.at.returns c).Else-why-ne0)).0 in
    as_short a.edition a.stream.now a.out.now _ _
    (enough a.edition a.stream.now a.out.now _ _ l
    (lent-enough a.edition a.stream.now a.out.now _ _ l r.result r.ensures c.if-why-ne0.false))
    (record { answered = c.written_as.ensures ∙ ap written_as g.answered ∙ w.answered; put = g.output ∙ w.put })
