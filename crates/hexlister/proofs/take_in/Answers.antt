-- `take_in` meets its contract: what `read` answered is looked at, and what it counts is read on.
use Rattle.hexlister.proofs.Inputs.{broke, took-on, took-last}
use Rattle.hexlister.proofs.take_in.Goals as goal

pub returns-in_default : goal.returns-in_default
returns-in_default c = broke c.in_default.field-0 c.in_default.is

pub returns-then-is_over : goal.returns-then-is_over
returns-then-is_over c = took-last c.in-Ok.is c.min-n.ensures c.feed-next.ensures c.is_over.ensures c.if-is_over.true

pub returns : goal.returns
returns c = took-on c.in-Ok.is c.min-n.ensures c.feed-next.ensures c.is_over.ensures c.if-is_over.false
