-- `lent::rows_needed` meets its contract: the elements counted so far and those of the rest are those of the stream.
use mathlib.Core.Path.{◌≡◌}
use mathlib.Core.List.{List}
use Prim.Native.Nat.{ℕ, ◌+◌, ◌-◌, ◌≤◌}
use Rattle.runs.specs.Runs.{items_of, tops, Fine}
use Rattle.runs.specs.declared.Run.{Run}
use Rattle.lent.proofs.rows_needed.Given as goal

abbrev pub tops_in : List ℕ → Run → ℕ
tops_in s r = tops (items_of s r)

abbrev pub invariant-loop-item : goal.invariant-loop-item
invariant-loop-item l = Fine l.s l.cur × (l.n ≤ 4096) × (tops_in l.s l.initial.cur ≡ l.n + tops_in l.s l.cur)

abbrev pub decreases-loop-item : goal.decreases-loop-item
decreases-loop-item l = l.cur.limit - l.cur.at
