-- `elements::frames::free_body` meets its contract, by whether the items are looked at.
use borrow.Author.Tests.{not-true, not-false}
use Rattle.elements.proofs.Framing.{unnamed, named-itself}
use Rattle.elements.proofs.frames.free_body.Goals as goal

pub returns-then-not-shape : goal.returns-then-not-shape
returns-then-not-shape c s fine =
    let a = c.args in
    rw c.no_run.ensures (unnamed s a.shape a.r (not-true a.shape.looked c.if-not-shape.true))

pub returns : goal.returns
returns c s fine =
    let a = c.args in
    named-itself s a.shape a.r c.requires.0 c.requires.1 (not-false a.shape.looked c.if-not-shape.false) fine
