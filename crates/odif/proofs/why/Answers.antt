-- `odif::why` meets its contract: number and place are those of the fetch.
use Rattle.answers.proofs.Fetching.{why-located}
use Rattle.odif.proofs.why.Goals as goal

pub returns : goal.returns
returns c = why-located _ _ _ c.locate-located.ensures.0
