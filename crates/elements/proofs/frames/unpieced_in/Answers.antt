-- `elements::frames::unpieced_in` meets its contract: by whether an item of the run has the octet of tiles.
use Rattle.elements.specs.Frames.{with_tiles}
use Rattle.elements.proofs.frames.unpieced_in.Goals as goal

pub returns-in-Some : goal.returns-in-Some
returns-in-Some c =
    let a = c.args in
    c.held_in_pieces.ensures a.s.now a.shape a.r c.requires.1
    (with_tiles c.requires.2 c.in-Some.ensures)

pub returns-in-None : goal.returns-in-None
returns-in-None c =
    let a = c.args in
    c.held_whole.ensures a.s.now a.shape a.r c.requires.1 c.requires.2
    c.in-None.ensures
    c.first_with-in-None.ensures
