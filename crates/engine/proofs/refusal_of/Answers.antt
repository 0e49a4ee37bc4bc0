-- `refusal_of`: its test is that of `start`.
use native.Mathlib.Omega.{arith}
use borrow.Author.Tests.{le-leb, lt-leb}
use Rattle.blocks.specs.Blocks.{start}
use Rattle.engine.proofs.refusal_of.Goals as goal

pub returns-then-total-gt-STREAM_LIMIT : goal.returns-then-total-gt-STREAM_LIMIT
unfolding start
returns-then-total-gt-STREAM_LIMIT c = let n = c.args.total in rw (lt-leb n 1048576 (omega arith))

pub returns : goal.returns
unfolding start
returns c = let n = c.args.total in rw (le-leb n 1048576 (omega arith))
