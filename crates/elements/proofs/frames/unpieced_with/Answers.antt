-- `elements::frames::unpieced_with` meets its contract: by whether an item of the opening has the octet of tiles.
use Rattle.elements.specs.Frames.{with_tiles}
use Rattle.elements.proofs.frames.unpieced_with.Goals as goal

pub returns-in-Some : goal.returns-in-Some
returns-in-Some c =
    let shape = c.args.shape in
    λ s r opens few lacked.
    c.held_in_pieces.ensures s shape r c.requires
    (with_tiles lacked (c.in-Some.ensures s r opens few))

pub returns-in-None : goal.returns-in-None
returns-in-None c =
    let shape = c.args.shape in
    λ s r opens few lacked.
    c.held_whole.ensures s shape r c.requires lacked
    (c.in-None.ensures s r opens few)
    (c.part_with-in-None.ensures s r opens few)
