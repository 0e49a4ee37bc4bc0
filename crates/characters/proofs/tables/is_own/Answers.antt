-- `characters::tables::is_own` meets its contract: the tests are those of the definition.
use borrow.Author.Tests.{le-leb, lt-leb, ne_eqb}
use Rattle.characters.proofs.tables.is_own.Goals as goal

pub returns-then-octet-ge32 : goal.returns-then-octet-ge32
returns-then-octet-ge32 c = rw (le-leb _ _ c.if-octet-ge32.true)

pub returns-then-octet-eq10 : goal.returns-then-octet-eq10
returns-then-octet-eq10 c = rw c.if-octet-eq10.true

pub returns-then-octet-eq9 : goal.returns-then-octet-eq9
returns-then-octet-eq9 c = rw c.if-octet-eq9.true

pub returns : goal.returns
returns c = rw (lt-leb 0x20 _ c.if-octet-ge32.false, ne_eqb _ 0x0A c.if-octet-eq10.false, ne_eqb _ 0x09 c.if-octet-eq9.false)
