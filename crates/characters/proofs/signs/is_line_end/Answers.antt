-- `characters::signs::is_line_end` meets its contract: both octets are compared.
use borrow.Author.Tests.{ne_eqb}
use Rattle.characters.proofs.signs.is_line_end.Goals as goal

pub returns-then-a-eq13 : goal.returns-then-a-eq13
returns-then-a-eq13 c = rw c.if-a-eq13.true

pub returns : goal.returns
returns c = rw (ne_eqb _ 0x0D c.if-a-eq13.false)
