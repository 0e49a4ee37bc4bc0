-- `names::hash_space` meets its contract: one step with the space.
use Rattle.names.specs.Hash.{hash_from}
use Rattle.names.proofs.hash_space.Goals as goal

pub returns : goal.returns
unfolding hash_from
returns c = c.hash_byte.ensures
