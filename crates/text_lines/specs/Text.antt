-- The texts of the matches of a side, one after another, and a line for each: which match it is, and where its text stands. It is what the whole
-- reading shows, our own question (answers, specs/Text). What the text of a unit is, is not said here.
use Rattle.std.specs.Prelude.{ℕ, ◌+◌, List, [], ◌∷◌, ◌++◌, length}
use Rattle.reading.specs.declared.Match.{Match}

-- the text of each element, by its number
abbrev pub TextOf : Type 0
TextOf = ℕ → List ℕ

-- the texts of the matched units, one after another
unfoldable pub texts_of : TextOf → List Match → List ℕ
texts_of text [] = []
texts_of text (m ∷ ms) = text m.unit ++ texts_of text ms

-- a line is a record of five numbers: the match's three, and the bounds of its text in the output
pub record Line : Type 0 where
  pub element : ℕ
  pub portion : ℕ
  pub unit : ℕ
  pub first : ℕ
  pub past : ℕ

-- the line of a match whose text begins at first
abbrev pub line_of : TextOf → (first : ℕ) → Match → Line
line_of text first m = record { element = m.element; portion = m.portion; unit = m.unit; first = first; past = first + length (text m.unit) }

-- a line for each, the next beginning where the one before ends
unfoldable pub lines_from : TextOf → (first : ℕ) → List Match → List Line
lines_from text first [] = []
lines_from text first (m ∷ ms) = line_of text first m ∷ lines_from text (line_of text first m).past ms

-- the numbers of a line
abbrev pub line_width : ℕ
line_width = 5

abbrev pub line_cells : Line → List ℕ
line_cells l = l.element ∷ l.portion ∷ l.unit ∷ l.first ∷ l.past ∷ []

-- the numbers of lines, one line after another
unfoldable pub line_numbers : List Line → List ℕ
line_numbers [] = []
line_numbers (l ∷ ls) = line_cells l ++ line_numbers ls
