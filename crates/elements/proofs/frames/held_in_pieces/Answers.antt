-- `elements::frames::held_in_pieces` meets its contract: an item with pieces is there.
use Rattle.elements.proofs.Holding.{pieced-holding}
use Rattle.elements.proofs.frames.held_in_pieces.Goals as goal

pub returns : goal.returns
returns c = λ s shape r made held. rw c.span_of-value.ensures (pieced-holding made held)
