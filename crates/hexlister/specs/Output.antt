-- The hex lister as a function from its whole input to its whole output (document 01, "Table, list, part, normal form" and "Checked examples").
-- Not said here: how it is read and written, and that a line past the last that can be told bears that number (`last_line`).
use Rattle.std.specs.Prelude.{ℕ, suc, ◌*◌, min, cond, eqb, replicate}
use mathlib.Core.List.{List, [], ◌∷◌, ◌++◌, flatten, map}
use Rattle.lister_text.specs.Lines.{accepted, element, layout, logical, refused, unreadable}
use Rattle.lister_hex.specs.Lines.{TextMeaning, reads}
use Rattle.lister_hex.specs.Lines as hex
use Rattle.lister_hex.specs.Blocks.{last_line}
use Rattle.answers.specs.Table.{table_width}
use Rattle.elements.specs.declared.Row.{Row}
use Rattle.elements.specs.declared.Edition.TheVariants.{Of1988}
use Rattle.reading.specs.declared.Match.{Match}
use Rattle.reading.specs.declared.Side.{Side}
use Rattle.reading.specs.declared.Side.TheVariants.{Layout, Logical}
use Rattle.answers.specs.declared.Checked.{Checked}
use Rattle.letters.specs.Letter.{rows_in}
use Rattle.answers.specs.Answers.{checked, matches_in}

-- "It lends 1,024 table rows and 1,024 records"
abbrev pub rows_lent : ℕ
rows_lent = 1024

abbrev pub records_lent : ℕ
records_lent = 1024

-- the table and the list, as they are lent
abbrev pub table_room : ℕ
table_room = rows_lent * table_width

abbrev pub lent_table : List ℕ
lent_table = replicate table_room 0

abbrev pub no_record : Match
no_record = record { element = 0; portion = 0; unit = 0 }

abbrev pub lent_list : List Match
lent_list = replicate records_lent no_record

-- "one element a line": "element, first, past, kind", from a number on
unfoldable pub element_lines : ℕ → List Row → List ℕ
element_lines number [] = []
element_lines number (row ∷ rows) = element number row.whole.first row.whole.past row.kind ++ element_lines (suc number) rows

abbrev pub match_line : Side → Match → List ℕ
match_line Layout m = layout m.element m.portion m.unit
match_line Logical m = logical m.element m.portion m.unit

unfoldable pub match_lines : Side → List Match → List ℕ
match_lines side ms = flatten (map (match_line side) ms)

-- "then layout matches, then logical ones"
abbrev pub side_lines : (s : List ℕ) → List ℕ
side_lines s = match_lines Layout (matches_in Of1988 Layout s) ++ match_lines Logical (matches_in Of1988 Logical s)

-- "accepted, elements, headers; then element, first, past, kind"; then the matches
unfoldable pub accepted_lines : (elements headers : ℕ) → (s : List ℕ) → List ℕ
accepted_lines elements headers s = accepted elements headers ++ element_lines 0 (rows_in Of1988 s) ++ side_lines s

-- "A refused stream prints `refused` with number and place"
abbrev pub answer_lines : Checked → (s : List ℕ) → List ℕ
answer_lines answer s =
    cond (eqb answer.number 0)
    (accepted_lines answer.elements answer.headers s)
    (refused answer.number answer.place)

unfoldable pub stream_lines : (s : List ℕ) → List ℕ
stream_lines s = answer_lines (checked Of1988 s lent_table) s

-- "the first line with anything else .. prints only `unreadable` and its number from 1"
abbrev pub outcome_lines : TextMeaning → List ℕ
outcome_lines (hex.stream s) = stream_lines s
outcome_lines (hex.unreadable line) = unreadable (min line last_line)

-- "Hex lister, whole input" to "whole output"
abbrev pub output : (text : List ℕ) → List ℕ
output text = outcome_lines (reads text)
