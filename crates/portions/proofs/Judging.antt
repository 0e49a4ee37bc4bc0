-- What a reading decides of the portions: whether they are well spelt, and whether one stands twice.
use mathlib.Core.Path.{◌≡◌, ap}
use mathlib.Core.Bool.{not, ◌&&◌, not-not}
use mathlib.Core.List.{List}
use Prim.Native.Nat.{ℕ, ◌*◌, ◌≤◌}
use lib.Dec.{leb}
use lib.ListN.{take}
use Rattle.runs.specs.declared.Run.{Run}
use Rattle.runs.specs.Runs.{tree_in}
use Rattle.portions.specs.declared.PortionList.{PortionList}
use Rattle.portions.specs.Portions.{most_portions, values, well_spelt, repeats}
use Rattle.portions.specs.Bounds.{bounded}
use Rattle.portions.specs.Lists.{ListsPortions}

module _ {s : List ℕ} {r : Run} {listed : PortionList} {numbers : List ℕ} (lists : ListsPortions s r listed numbers) where
  -- 14: at most 64, none misspelt
  pub well-spelt : well_spelt (values (tree_in s r)) ≡ (leb listed.count most_portions && not listed.misspelt)
  unfolding well_spelt
  well-spelt = rw (lists.misspelt, lists.count, not-not)

  -- 15: what `has_repeats` answers
  pub repeat-stored : listed.count ≤ most_portions → repeats (bounded s (take (2 * listed.count) numbers)) ≡ repeats (values (tree_in s r))
  repeat-stored few = ap repeats (lists.stored few)
