-- `pieces::are_pieces` meets its contract. The loop's invariant: the run is of pieces only exactly when what is left of it is. The
-- function ends, for each call has fewer levels left.
use mathlib.Core.Path.{◌≡◌}
use Prim.Native.Nat.{◌-◌}
use Rattle.runs.specs.Runs.{tree_in, Fine}
use Rattle.pieces.specs.Pieces.{only_pieces}
use Rattle.pieces.proofs.+are_pieces.Given as goal

abbrev pub decreases-are_pieces : goal.decreases-are_pieces
decreases-are_pieces l = l.r.room

abbrev pub invariant-loop-item : goal.invariant-loop-item
invariant-loop-item l = Fine l.s l.cur × (l.cur.room ≡ l.initial.cur.room)
    × (only_pieces l.piece l.pieces (tree_in l.s l.initial.cur) ≡ only_pieces l.piece l.pieces (tree_in l.s l.cur))

abbrev pub decreases-loop-item : goal.decreases-loop-item
decreases-loop-item l = l.cur.limit - l.cur.at
