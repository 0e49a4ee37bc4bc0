-- `rows::logicals` meets its contract: what is left is the second half.
use Rattle.rows.proofs.Halves.{second-half}
use Rattle.rows.proofs.logicals.Goals as goal

pub returns : goal.returns
returns c = second-half c.args.index.now c.half_of-half.ensures
