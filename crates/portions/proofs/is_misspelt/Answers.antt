-- `portions::is_misspelt` meets its contract: both ways round the test before.
use Rattle.std.proofs.lemmas.Slice.{between_is}
use Rattle.portions.proofs.is_misspelt.Goals as goal

pub returns : goal.returns
returns c = rw (c.if-before.false, c.is_portion.ensures, between_is c.args.s.now c.args.v.first c.args.v.past)
