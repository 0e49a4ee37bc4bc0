-- `owners::portion_with` meets its contract. The loop's invariant: the answer among all portions is that among those that are left.
use mathlib.Core.Path.{◌≡◌}
use Prim.Native.Nat.{◌-◌}
use Rattle.runs.specs.Runs.{tree_in}
use Rattle.portions.specs.Portions.{values}
use Rattle.owners.specs.Owner.{listed_at, owner_among}
use Rattle.owners.proofs.Telling.{Left}
use Rattle.owners.proofs.portion_with.Given as goal

abbrev pub invariant-loop-item : goal.invariant-loop-item
invariant-loop-item l = Left l.s l.rows l.row l.left l.portion
    × (owner_among l.row 0 (listed_at l.s l.rows l.row) l.octets ≡ owner_among l.row l.portion (values (tree_in l.s l.left)) l.octets)

abbrev pub decreases-loop-item : goal.decreases-loop-item
decreases-loop-item l = l.left.limit - l.left.at
