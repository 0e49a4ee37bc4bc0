-- `odif::dated` meets its contract: it is what was found.
use Rattle.odif.proofs.dating.dated.Goals as goal

pub returns : goal.returns
returns c = c.find_date.ensures.answered
