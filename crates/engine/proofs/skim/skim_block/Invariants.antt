-- `skim_block`: each turn of the loop takes one header (`turned`), and what is left to take of the block is the same.
use Prim.Native.Nat.{◌-◌}
use lib.ListN.{length}
use Rattle.engine.proofs.Skimming.{Skimming}
use Rattle.engine.proofs.skim.skim_block.Given as goal

abbrev pub invariant-loop-s : goal.invariant-loop-s
invariant-loop-s l = Skimming l.b l.block l.from l.seat l.ends l.s

abbrev pub decreases-loop-s : goal.decreases-loop-s
decreases-loop-s l = length l.block - l.s.i
