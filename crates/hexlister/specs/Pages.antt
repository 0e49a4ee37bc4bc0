-- What the functions put on the page that is written: lines, one after another, from a place on.
use Rattle.std.specs.Prelude.{ℕ, zero, suc, ◌+◌, ◌*◌, ◌≤◌, ◌≡◌, List, [], ◌++◌, length, get_or}
use Rattle.std.proofs.lemmas.List.Edits.{sets}
use Rattle.lister_text.specs.Lines.{element}
use Rattle.rows.specs.Columns.{whole_column}
use Rattle.answers.specs.Table.{table_width}
use Rattle.hexlister.specs.Output.{rows_lent, records_lent}

-- room for any line
abbrev pub line_room : ℕ
line_room = 128

-- for a line for each element
abbrev pub elements_room : ℕ
elements_room = line_room * rows_lent

-- for a line for each match of a side
abbrev pub side_room : ℕ
side_room = line_room * records_lent

-- and for all that is written
abbrev pub page_room : ℕ
page_room = line_room + elements_room + (side_room + side_room)

-- bytes were put on a page from a place on, within some room; the place past them is told
pub record PutsOnPage (bytes page : List ℕ) (at told : ℕ) (page_after : List ℕ) (room : ℕ) : Type 0 where
  pub past : told ≡ at + length bytes
  pub stored : page_after ≡ sets page at bytes
  pub within : length bytes ≤ room

-- the line of an element, by its row in the table
abbrev pub row_line : (table : List ℕ) (number : ℕ) → List ℕ
row_line table number =
    element number (get_or table (number * table_width + whole_column) 0) (get_or table (number * table_width + whole_column + 1) 0)
    (get_or table (number * table_width) 0)

-- the lines of so many, from a number on
unfoldable pub row_lines : (table : List ℕ) (number count : ℕ) → List ℕ
row_lines table number zero = []
row_lines table number (suc count) = row_line table number ++ row_lines table (suc number) count
