-- `letters::has_more` meets its contract: the elements of the stream and those that may still be passed are as many as those asked for and
-- those of the rest.
use mathlib.Core.Path.{◌≡◌}
use mathlib.Core.List.{List}
use Prim.Native.Nat.{ℕ, ◌+◌, ◌-◌}
use Rattle.runs.specs.Runs.{items_of, tops, Fine}
use Rattle.runs.specs.declared.Run.{Run}
use Rattle.letters.proofs.has_more.Given as goal

abbrev pub tops_in : List ℕ → Run → ℕ
tops_in s r = tops (items_of s r)

abbrev pub invariant-loop-item : goal.invariant-loop-item
invariant-loop-item l = Fine l.s l.cur × (tops_in l.s l.initial.cur + l.left ≡ l.most + tops_in l.s l.cur)

abbrev pub decreases-loop-item : goal.decreases-loop-item
decreases-loop-item l = l.cur.limit - l.cur.at
