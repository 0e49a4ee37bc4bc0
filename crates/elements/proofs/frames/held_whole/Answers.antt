-- `elements::frames::held_whole` meets its contract: no item with pieces or tiles is there.
use Rattle.elements.proofs.Holding.{lacked-holding}
use Rattle.elements.proofs.frames.held_whole.Goals as goal

pub returns : goal.returns
returns c =
    λ s shape r made lacked no_tiles found. rw c.no_run.ensures
    (lacked-holding made lacked no_tiles (c.bounds_of.ensures s r shape.content found))
