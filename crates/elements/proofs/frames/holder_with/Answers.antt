-- `elements::frames::holder_with` meets its contract: by whether an item of the opening has the octet of pieces.
use Rattle.elements.specs.Frames.{with_pieces}
use Rattle.elements.proofs.frames.holder_with.Goals as goal

pub returns-in-Some : goal.returns-in-Some
returns-in-Some c =
    let shape = c.args.shape in
    λ s r opens few.
    c.held_in_pieces.ensures s shape r c.requires
    (with_pieces (c.in-Some.ensures s r opens few))

pub returns-in-None : goal.returns-in-None
returns-in-None c =
    let shape = c.args.shape in
    λ s r opens few.
    c.unpieced_with.ensures s r opens few
    (c.in-None.ensures s r opens few)
