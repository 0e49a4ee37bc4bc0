-- `in_order::out_of_order` meets its contract.
use borrow.Author.Tests.{lt-ltb, le-ltb}
use Rattle.answers.proofs.in_order.out_of_order.Goals as goal

pub returns-then-element-count : goal.returns-then-element-count
returns-then-element-count c = rw (lt-ltb _ _ c.if-element-count.true)

pub returns : goal.returns
returns c = rw (le-ltb _ _ c.if-element-count.false)
