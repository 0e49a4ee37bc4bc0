-- What one reading of the portions tells of them.
use Rattle.std.specs.Prelude.{◌≡◌, true, false, not, List, map, ℕ, ◌*◌, ◌≤◌, length, take, Option, Some, None}
use Rattle.names.specs.Names.{is_portion}
use Rattle.runs.specs.declared.Run.{Run}
use Rattle.runs.specs.Runs.{tree_in}
use Rattle.portions.specs.Portions.{most_portions, all_portions, values, all}
use Rattle.portions.specs.Bounds.{bounded, Inside}
use Rattle.portions.specs.declared.PortionList.{PortionList}

-- The items of a run that are all 12: how many they are, whether one is misspelt, and, if they are at most 64, the numbers that bound
-- them.
pub record ListsPortions (s : List ℕ) (r : Run) (listed : PortionList) (numbers : List ℕ) : Type 0 where
  pub only : all_portions (tree_in s r) ≡ true
  pub count : listed.count ≡ length (values (tree_in s r))
  pub misspelt : listed.misspelt ≡ not (all (map is_portion (values (tree_in s r))))
  pub inside : listed.count ≤ most_portions → Inside s (take (2 * listed.count) numbers)
  pub stored : listed.count ≤ most_portions → bounded s (take (2 * listed.count) numbers) ≡ values (tree_in s r)

-- Of a run with other items only that is told.
abbrev pub ReadsPortions : (s : List ℕ) → Run → Option PortionList → (numbers : List ℕ) → Type 0
ReadsPortions s r (Some listed) numbers = ListsPortions s r listed numbers
ReadsPortions s r None numbers = all_portions (tree_in s r) ≡ false
