-- `odif::locate` meets its contract: it is what the question's work left.
use Rattle.answers.proofs.Working.{content-left}
use Rattle.odif.proofs.locate.Goals as goal

pub ask-found-requires : goal.ask-found-requires
ask-found-requires c = tt

pub returns : goal.returns
returns c = let f = content-left c.ask-found.ensures in rw c.from.ensures (f.answered, f.stands)
