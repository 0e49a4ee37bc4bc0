-- `elements::frames::pieces_alone` meets its contract: by whether the content is in pieces.
use borrow.Author.Tests.{not-true, not-false}
use Rattle.elements.proofs.Holding.{whole-alone, pieced-alone}
use Rattle.elements.proofs.frames.pieces_alone.Goals as goal

pub returns-then-not-holder : goal.returns-then-not-holder
returns-then-not-holder c =
    let a = c.args in
    whole-alone a.s.now a.holder (not-true a.holder.pieced c.if-not-holder.true)

pub returns : goal.returns
returns c =
    let a = c.args in
    pieced-alone a.s.now a.holder (not-false a.holder.pieced c.if-not-holder.false) c.are_pieces.result c.are_pieces.ensures
