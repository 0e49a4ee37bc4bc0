-- `odif::children` meets its contract: it is what the question's work left.
use Rattle.answers.proofs.Working.{children-left}
use Rattle.odif.proofs.family.children.Goals as goal

pub returns : goal.returns
returns c = rw c.from.ensures (children-left c.ask-told.ensures)
