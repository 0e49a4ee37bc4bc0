-- The lent table. Document 01, "Table, list, part, normal form": "A table row is twelve numbers: kind .., object type .., then first and past for the
-- element, its identifier, the unit's logical identifier, the portions' value, the content"; "an incomplete last row isn't used". W-204: "The table row
-- grows to thirteen numbers, the last being the parent's row". The scratch's row (`scratch_width`, `cells`) has what is read of an element; what is told of
-- it besides is added to the table's row alone, here.
use Rattle.std.specs.Prelude.{ℕ, ◌+◌, ◌*◌, ◌/◌, Bool, List, [], ◌∷◌, ◌++◌, ltb, length, get_or}
use Rattle.elements.specs.declared.Row.{Row}
use Rattle.elements.specs.Judge.{Element}
use Rattle.elements.specs.ElementRows.{cells}
use Rattle.reading.specs.Match.{for_each}
use Rattle.parents.specs.Parent.{parent, row_or_none}

-- "thirteen numbers"
abbrev pub table_width : ℕ
table_width = 13

-- the numbers of row j: those of the scratch's row, "the last being the parent's row, or 65,535"
abbrev pub row_numbers : List Element → (j : ℕ) → Row → List ℕ
row_numbers elements j row = cells row ++ row_or_none (parent elements j) ∷ []

-- the numbers of its rows, one row after another
abbrev pub table_numbers : List Element → List Row → List ℕ
table_numbers elements rows = for_each 0 rows (row_numbers elements)

-- how many rows a lent table has: "an incomplete last row isn't used"
abbrev pub rows_lent : (table : List ℕ) → ℕ
rows_lent table = length table / table_width

-- 16 "table rows fewer than elements"
abbrev pub too_few_rows : (table : List ℕ) → List Element → Bool
too_few_rows table elements = ltb (rows_lent table) (length elements)

-- where a row has its parent's row
abbrev pub parent_column : ℕ
parent_column = 12

-- the number that row j has there
abbrev pub parent_at : (table : List ℕ) → (j : ℕ) → ℕ
parent_at table j = get_or table (j * table_width + parent_column) 0
