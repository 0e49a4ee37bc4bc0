-- `characters::tables::is_plain` meets its contract: the dollar is not plain.
use borrow.Author.Tests.{ne_eqb}
use Rattle.characters.specs.Sets.{is_plain}
use Rattle.characters.proofs.tables.is_plain.Goals as goal

pub returns-then-octet-eq36 : goal.returns-then-octet-eq36
unfolding is_plain
returns-then-octet-eq36 c = rw c.if-octet-eq36.true

pub returns : goal.returns
unfolding is_plain
returns c = rw (ne_eqb _ 0x24 c.if-octet-eq36.false) c.is_own.ensures
