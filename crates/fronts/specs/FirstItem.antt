-- What the code learns of the first item of a stream.
use Rattle.std.specs.Prelude.{ℕ, ◌≤◌, ◌≡◌, List, Result, Ok, Err, length}
use Rattle.octets.specs.Walk.{no_items, item, ends, stops}
use Rattle.runs.specs.declared.Run.{Run}
use Rattle.runs.specs.Runs.{items_of, Fine}
use Rattle.headers.specs.declared.Refusal.{Refusal}
use Rattle.fronts.specs.declared.First.{First}
use Rattle.fronts.specs.First.{walk_first}

-- the first item is whole and ends at next; it has this code, and this is the run inside it
pub record FirstItem (s : List ℕ) (code : ℕ) (inner : Run) : Type 0 where
  pub next : ℕ
  pub first : ℕ
  pub past : ℕ
  pub within : next ≤ length s
  pub ended : (walk_first s).how ≡ ends next
  pub is : (walk_first s).items ≡ item 0 code first past (items_of s inner) no_items
  pub fine : Fine s inner

-- what a stream begins with: an item that is whole, or a refusal by 2 to 8
abbrev pub BeginsWith : List ℕ → Result First Refusal → Type 0
BeginsWith s (Ok front) = FirstItem s front.code front.inner
BeginsWith s (Err refusal) = (walk_first s).how ≡ stops refusal.number refusal.place
