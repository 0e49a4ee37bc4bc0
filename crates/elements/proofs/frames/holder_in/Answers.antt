-- `elements::frames::holder_in` meets its contract: by whether an item of the run has the octet of pieces.
use Rattle.elements.specs.Frames.{with_pieces}
use Rattle.elements.proofs.frames.holder_in.Goals as goal

pub unpieced_in-requires : goal.unpieced_in-requires
unpieced_in-requires c =
    (c.requires.0, c.requires.1, c.in-None.ensures)

pub returns-in-Some : goal.returns-in-Some
returns-in-Some c =
    let a = c.args in
    c.held_in_pieces.ensures a.s.now a.shape a.r c.requires.1
    (with_pieces c.in-Some.ensures)
