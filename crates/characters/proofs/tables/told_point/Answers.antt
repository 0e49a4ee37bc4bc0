-- `characters::tables::told_point` meets its contract: the halves of a set.
use borrow.Author.Tests.{le-leb, lt-leb}
use Rattle.characters.specs.Sets.{point_of}
use Rattle.characters.proofs.tables.told_point.Goals as goal

pub returns-then-octet-ge160 : goal.returns-then-octet-ge160
unfolding point_of
returns-then-octet-ge160 c = rw (le-leb _ _ c.if-octet-ge160.true) c.right_point.ensures

pub returns : goal.returns
unfolding point_of
returns c = rw (lt-leb _ _ c.if-octet-ge160.false) c.left_point.ensures
