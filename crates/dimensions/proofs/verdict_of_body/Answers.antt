-- `dimensions::verdict_of_body` meets its contract: how many A4 there are decides.
use mathlib.Core.Path.{refl, ◌∙◌}
use mathlib.Core.Logic.{inr}
use Rattle.dimensions.proofs.Bodies.{no-a4, second-a4, one-a4}
use Rattle.dimensions.proofs.verdict_of_body.Goals as goal

pub returns-then-g-eq0 : goal.returns-then-g-eq0
returns-then-g-eq0 c =
    let a = c.args in
    no-a4 a.s.now a.r c.gather-g.ensures.portions.amount_is c.if-g-eq0.true

pub returns-then-g-ne1 : goal.returns-then-g-ne1
returns-then-g-ne1 c =
    let a = c.args in
    second-a4 a.s.now a.r c.gather-g.ensures.portions.amount_is c.if-g-eq0.false c.if-g-ne1.true

pub returns : goal.returns
returns c =
    let a = c.args in
    let gathered = c.gather-g in
    c.verdict_of_items.ensures
    ∙ one-a4 a.s.now a.r gathered.ensures.portions.amount_is c.if-g-ne1.false gathered.result.list
    (gathered.ensures.list_tree (inr refl))
