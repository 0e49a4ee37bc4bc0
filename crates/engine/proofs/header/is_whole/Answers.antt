-- `is_whole`: its test is that of `whole`.
use native.Mathlib.Omega.{arith}
use lib.ListN.{length}
use borrow.Author.Tests.{leb-false}
use Rattle.blocks.specs.Engine.{whole}
use Rattle.engine.proofs.header.is_whole.Goals as goal

pub returns : goal.returns
unfolding whole
returns c = (rw (c.min.ensures, c.wanted_of.ensures.0), λ e. let l = leb-false c.min.result (length c.args.kept.now) e in omega arith)
