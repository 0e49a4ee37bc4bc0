-- `odif::check` meets its contract: it is what the question's work left.
use Rattle.answers.proofs.Working.{check-left}
use Rattle.odif.proofs.check.Goals as goal

pub ask-told-requires : goal.ask-told-requires
ask-told-requires c = tt

pub returns : goal.returns
returns c = rw c.from.ensures (check-left c.ask-told.ensures)
