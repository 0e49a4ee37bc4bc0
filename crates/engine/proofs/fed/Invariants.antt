-- `fed`: what is left to take of the block stays the same, turn by turn, and at its end is nothing.
use mathlib.Core.Path.{◌≡◌}
use Prim.Native.Nat.{◌+◌, ◌-◌, ◌≤◌}
use lib.ListN.{length, drop}
use Rattle.blocks.specs.Engine.{feed}
use Rattle.engine.specs.Stored.{state_of}
use Rattle.engine.specs.Skimming.{FineIfReading}
use Rattle.engine.proofs.fed.Given as goal

abbrev pub invariant-loop-i : goal.invariant-loop-i
invariant-loop-i l = (l.i ≤ length l.block) × (l.s.taken + (length l.block - l.i) ≤ l.s.total) × FineIfReading l.s × (length l.block ≤ l.s.total)
    × (feed (state_of l.initial.s) (drop l.initial.i l.block) ≡ feed (state_of l.s) (drop l.i l.block))

abbrev pub decreases-loop-i : goal.decreases-loop-i
decreases-loop-i l = length l.block - l.i
