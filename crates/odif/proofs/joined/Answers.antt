-- `odif::joined` meets its contract: it is what the question's work left.
use Rattle.answers.proofs.Working.{joined-left}
use Rattle.odif.proofs.joined.Goals as goal

pub ask-put-requires : goal.ask-put-requires
ask-put-requires c = tt

pub returns : goal.returns
returns c = rw c.from.ensures (joined-left c.ask-put.ensures)
