-- `pieces::joined_length` meets its contract. The loop's invariant: the octets of the run are those counted and those of what is left
-- of it. The function ends, for each call has fewer levels left.
use mathlib.Core.Path.{◌≡◌}
use Prim.Native.Nat.{◌+◌, ◌-◌}
use lib.ListN.{length}
use Rattle.runs.specs.Runs.{tree_in, Fine}
use Rattle.pieces.specs.Pieces.{joined}
use Rattle.pieces.proofs.+joined_length.Given as goal

abbrev pub decreases-joined_length : goal.decreases-joined_length
decreases-joined_length l = l.r.room

abbrev pub invariant-loop-item : goal.invariant-loop-item
invariant-loop-item l = Fine l.s l.cur × (l.cur.room ≡ l.initial.cur.room)
    × (length (joined (tree_in l.s l.initial.cur)) ≡ l.n + length (joined (tree_in l.s l.cur)))

abbrev pub decreases-loop-item : goal.decreases-loop-item
decreases-loop-item l = l.cur.limit - l.cur.at
