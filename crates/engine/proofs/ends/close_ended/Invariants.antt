-- `close_ended`: each turn closes the innermost open item, as `settle` does.
use mathlib.Core.Path.{◌≡◌}
use Prim.Native.Nat.{ℕ, ◌≤◌}
use Rattle.blocks.specs.Engine.{settle}
use Rattle.engine.specs.Stored.{opens_of}
use Rattle.engine.proofs.ends.close_ended.Given as goal

abbrev pub invariant-loop-i : goal.invariant-loop-i
invariant-loop-i l = (l.i ≤ 16) × ((k : ℕ) → settle k (opens_of l.level l.ends) l.at ≡ settle k (opens_of l.i l.ends) l.at)
