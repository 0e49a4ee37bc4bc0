-- `elements::frames::frame_of` meets its contract, for each kind of shape.
use borrow.Author.Tests.{not-true, not-false}
use Rattle.elements.proofs.Framing.{free-frame}
use Rattle.elements.proofs.frames.frame_of.Goals as goal

pub frame_in_order-requires : goal.frame_in_order-requires
frame_in_order-requires c =
    (c.requires.0, c.requires.1, not-true c.args.shape.free c.if-not-shape.true)

pub free_body-requires : goal.free_body-requires
free_body-requires c = (c.requires.1, not-false c.args.shape.free c.if-not-shape.false)

pub returns : goal.returns
returns c =
    let a = c.args in
    rw c.no_holder.ensures
    (free-frame a.s.now a.shape a.r c.requires.0 c.requires.1 (not-false a.shape.free c.if-not-shape.false) (c.free_body.ensures a.s.now c.requires.0))
