-- `elements::listed_of` meets its contract: where there is no list there are no items to read.
use mathlib.Core.Path.{◌≡◌}
use mathlib.Core.Bool.{false}
use mathlib.Core.List.{List}
use Prim.Native.Nat.{ℕ}
use Rattle.octets.specs.Walk.{no_items}
use Rattle.tree.specs.Tree.{empty}
use Rattle.runs.specs.declared.Run.{Run}
use Rattle.runs.specs.Runs.{items_of, tree_in}
use Rattle.runs.proofs.Laws.{tree-none}
use Rattle.portions.specs.Portions.{all_portions, values}
use Rattle.portions.specs.Bounds.{bounded, Inside}
use Rattle.portions.specs.Lists.{ListsPortions}
use Rattle.elements.proofs.listed_of.Goals as goal

none-listed : (s : List ℕ) (r : Run) (numbers : List ℕ) → items_of s r ≡ no_items
    → ListsPortions s r (record { count = 0; misspelt = false }) numbers
unfolding all_portions values bounded Inside
none-listed s r numbers e =
    let t : tree_in s r ≡ empty = tree-none s r e in
    record {
      only = rw t;
      count = rw t;
      misspelt = rw t;
      inside = λ _. tt;
      stored = λ _. rw t;
    }

pub returns-then-g-eq0 : goal.returns-then-g-eq0
returns-then-g-eq0 c =
    let a = c.args in
    λ nothing. none-listed a.s.now a.g.list a.bounds.now (nothing c.if-g-eq0.true)
