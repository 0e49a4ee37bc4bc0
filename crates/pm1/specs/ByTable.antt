-- What the code behind the question learns: the pages by the numbers of a finished table, and what is put of them.
use Rattle.std.specs.Prelude.{◌≡◌, cond, List, [], ◌++◌, ℕ, zero, suc, ◌+◌, ◌*◌, ◌≤◌, length, get_or}
use Rattle.std.proofs.lemmas.List.Edits.{sets}
use Rattle.octets.specs.Walk.{Items, no_items, item}
use Rattle.tree.specs.Tree.{Tree, plain}
use Rattle.runs.specs.Runs.{items_of, whole_stream, tops, Fine}
use Rattle.reading.specs.Match.{only}
use Rattle.answers.specs.Table.{table_width}
use Rattle.dimensions.specs.Dimensions.{verdict_of}
use Rattle.pm1.specs.Pages.{Page, is_page, page_width, page_numbers}

-- the kind and the object type that a table has in row j
abbrev pub kind_at : (table : List ℕ) → (j : ℕ) → ℕ
kind_at table j = get_or table (j * table_width) 0

abbrev pub object_at : (table : List ℕ) → (j : ℕ) → ℕ
object_at table j = get_or table (j * table_width + 1) 0

-- how many of so many rows from row j on are pages
unfoldable pub pages_among : (table : List ℕ) → (j left : ℕ) → ℕ
pages_among table j zero = 0
pages_among table j (suc n) = cond (is_page (kind_at table j) (object_at table j)) 1 0 + pages_among table (suc j) n

-- the page in row j, if it is one by the table, with the verdict on its items
abbrev pub page_at : (table : List ℕ) → (j : ℕ) → Tree → List Page
page_at table j run = only (is_page (kind_at table j) (object_at table j)) (record { element = j; verdict = verdict_of run })

-- the pages of items of which the first is row j
unfoldable pub pages_at : (s table : List ℕ) → (j : ℕ) → Items → List Page
pages_at s table j no_items = []
pages_at s table j (item at code first past inside after) = page_at table j (plain s inside) ++ pages_at s table (suc j) after

-- the pages of a whole stream
abbrev pub pages_by : (s table : List ℕ) → List Page
pages_by s table = pages_at s table 0 (items_of s (whole_stream s))

-- after so many records these were put, and so many are there then
pub record Puts (list : List ℕ) (count : ℕ) (pages : List Page) (list_after : List ℕ) (total : ℕ) : Type 0 where
  pub counted : total ≡ count + length pages
  pub stored : list_after ≡ sets list (page_width * count) (page_numbers pages)

-- what there is to go through: a stream that was walked, a table with a row for each of its elements, and room for a record of each page
pub record Ready (s table list : List ℕ) : Type 0 where
  pub fine : Fine s (whole_stream s)
  pub few : tops (items_of s (whole_stream s)) ≤ 4096
  pub rows : tops (items_of s (whole_stream s)) * table_width ≤ length table
  pub room : page_width * length (pages_by s table) ≤ length list
