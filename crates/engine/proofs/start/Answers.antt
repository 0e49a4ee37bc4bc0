-- `start`: nothing has come, and the number told is the state's finding.
use Rattle.engine.proofs.Questions.{starts}
use Rattle.engine.proofs.start.Goals as goal

pub returns : goal.returns
returns c = starts c.args.total c.refusal_of-number.result c.refusal_of-number.ensures
