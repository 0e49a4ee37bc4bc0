-- `answers::children::count_children` meets its contract. The loop's invariant: those that were found, and those that are left.
use mathlib.Core.Path.{◌≡◌}
use Prim.Native.Nat.{◌+◌, ◌-◌, ◌≤◌}
use lib.ListN.{length}
use Rattle.answers.specs.Filling.{rows_with}
use Rattle.answers.proofs.children.count_children.Given as goal

abbrev pub invariant-loop-j : goal.invariant-loop-j
invariant-loop-j l = (l.j ≤ l.count) × (l.found ≤ l.j) × (length (rows_with l.table l.row 0 l.count) ≡ l.found
    + length (rows_with l.table l.row l.j (l.count - l.j)))
