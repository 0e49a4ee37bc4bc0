-- `lent::size_for` meets its contract: its tests are those of the definition.
use borrow.Author.Tests.{le-leb, lt-leb}
use Rattle.lent.proofs.size_for.Goals as goal

pub returns-then-n-le64 : goal.returns-then-n-le64
returns-then-n-le64 c = simp (le-leb _ _ c.if-n-le64.true)

pub returns-then-n-le128 : goal.returns-then-n-le128
returns-then-n-le128 c = simp (lt-leb _ _ c.if-n-le64.false, le-leb _ _ c.if-n-le128.true)

pub returns-then-n-le256 : goal.returns-then-n-le256
returns-then-n-le256 c = simp (
  lt-leb _ _ c.if-n-le64.false,
  lt-leb _ _ c.if-n-le128.false,
  le-leb _ _ c.if-n-le256.true,
)

pub returns-then-n-le512 : goal.returns-then-n-le512
returns-then-n-le512 c = simp (
  lt-leb _ _ c.if-n-le64.false,
  lt-leb _ _ c.if-n-le128.false,
  lt-leb _ _ c.if-n-le256.false,
  le-leb _ _ c.if-n-le512.true,
)

pub returns-then-n-le1024 : goal.returns-then-n-le1024
returns-then-n-le1024 c = simp (
  lt-leb _ _ c.if-n-le64.false,
  lt-leb _ _ c.if-n-le128.false,
  lt-leb _ _ c.if-n-le256.false,
  lt-leb _ _ c.if-n-le512.false,
  le-leb _ _ c.if-n-le1024.true,
)

pub returns-then-n-le2048 : goal.returns-then-n-le2048
returns-then-n-le2048 c = simp (
  lt-leb _ _ c.if-n-le64.false,
  lt-leb _ _ c.if-n-le128.false,
  lt-leb _ _ c.if-n-le256.false,
  lt-leb _ _ c.if-n-le512.false,
  lt-leb _ _ c.if-n-le1024.false,
  le-leb _ _ c.if-n-le2048.true,
)

pub returns : goal.returns
returns c = simp (
  lt-leb _ _ c.if-n-le64.false,
  lt-leb _ _ c.if-n-le128.false,
  lt-leb _ _ c.if-n-le256.false,
  lt-leb _ _ c.if-n-le512.false,
  lt-leb _ _ c.if-n-le1024.false,
  lt-leb _ _ c.if-n-le2048.false,
)
