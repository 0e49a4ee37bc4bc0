-- `contents::first_with` meets its contract. The loop's invariant: a search from the start is one from here. The measure is what is left of
-- the run.
use Rattle.contents.specs.declared.Part.{Part}
use Rattle.contents.specs.Opening.{Begins}
use Rattle.contents.proofs.Firsts.{alike-on, holds-before, lacks-before, lacks-at-end, alike-after, holds-here}
use Rattle.contents.proofs.first_with.Goals as goal
use Rattle.contents.proofs.first_with.Goals.{In-Some}

-- the item that is met
abbrev part : (c : In-Some) → Part
part c = record { code = c.in-Some.item.code; first = c.in-Some.item.first; past = c.in-Some.item.past; inner = c.in-Some.item.inner }

meeting : (c : In-Some) → Begins c.args.s.now c.loop-item.cur (part c) c.in-Some.item.rest
meeting c = c.in-Some.ensures

pub returns : goal.returns
returns c =
    let a = c.args in
    let l = c.loop-item in
    lacks-before l.invariant.1 (lacks-at-end a.s.now a.sought l.cur c.in_default.ensures)

pub returns-then-item-sought : goal.returns-then-item-sought
returns-then-item-sought c =
    let here = (goal.at.returns-then-item-sought c).In-Some in
    let a = c.args in
    let l = c.loop-item in
    rw c.part_of.ensures
    (holds-before l.invariant.1 (holds-here a.s.now l.cur (part here) _ (meeting here) a.sought c.if-item-sought.true))

pub loop-item-preserved : goal.loop-item-preserved
loop-item-preserved c =
    let here = (goal.at.loop-item-preserved c).In-Some in
    let a = c.args in
    let l = c.loop-item in
    let m = meeting here in
    (m.rest_fine, alike-on l.invariant.1 (alike-after a.s.now l.cur (part here) _ m a.sought c.if-item-sought.false))
