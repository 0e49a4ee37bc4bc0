-- `characters::tables::right_point` meets its contract: the table is the supplement.
use Rattle.characters.specs.Sets.{supplement, right_point}
use Rattle.characters.proofs.Known.{no-latin1}
use Rattle.characters.proofs.tables.right_point.Goals as goal

pub returns-in-Latin1 : goal.returns-in-Latin1
unfolding right_point
returns-in-Latin1 c = rw c.in-Latin1.is

pub returns-in_default : goal.returns-in_default
unfolding right_point supplement
returns-in_default c = rw (no-latin1 c.args.set c.in_default.not-Latin1)
