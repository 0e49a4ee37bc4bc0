-- `characters::signs::alone_of` meets its contract: by what the set has.
use mathlib.Core.Path.{sym, ◌∙◌}
use Rattle.characters.specs.Signs.{alone}
use Rattle.characters.proofs.Known.{alone-some, alone-none}
use Rattle.characters.proofs.signs.alone_of.Goals as goal

pub returns-in-Some : goal.returns-in-Some
unfolding alone
returns-in-Some c = alone-some _ c.args.octet c.in-Some.p (sym c.point_of.ensures ∙ c.in-Some.is)

pub returns-in-None : goal.returns-in-None
unfolding alone
returns-in-None c = alone-none _ c.args.octet (sym c.point_of.ensures ∙ c.in-None.is)
