-- `letters::judge_stream` meets its contract: the judge stands between two elements at each turn, and all that is lent keeps its
-- length.
use mathlib.Core.Path.{◌≡◌}
use Prim.Native.Nat.{◌-◌}
use lib.ListN.{length}
use Rattle.letters.proofs.State.{Judging}
use Rattle.letters.proofs.judge_stream.Given as goal

abbrev pub invariant-loop-item : goal.invariant-loop-item
invariant-loop-item l = Judging l.edition l.s l.rows l.index l.n l.cur × (length l.rows ≡ length l.initial.rows) × (length l.index ≡ length l.initial.index) × (length l.bounds ≡ length l.initial.bounds)

abbrev pub decreases-loop-item : goal.decreases-loop-item
decreases-loop-item l = l.cur.limit - l.cur.at
