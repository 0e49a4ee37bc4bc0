-- The whole reading of a side: the table as the list fills it, a line for each match, and the joined contents of the matched units one after another.
-- No document asks for it: it is our own question, which the viewer puts to show a letter. It is refused as the reading list is, by 1 to 16 and 19, and
-- then by 22 if the output is shorter than all texts. A refusal leaves all that was lent as it was and has no counts, but that 19, a list too short,
-- leaves the finished table and keeps the element count, as in the list.
use Rattle.std.specs.Prelude.{◌≡◌, ℕ, ◌/◌, cond, List, [], ◌∷◌, eqb, ltb, length}
use Rattle.headers.specs.Head.{is_in}
use Rattle.elements.specs.declared.Edition.{Edition}
use Rattle.reading.specs.declared.Side.{Side}
use Rattle.text_lines.specs.Text.{TextOf, texts_of, Line, lines_from, line_width, line_numbers}
use Rattle.answers.specs.declared.Listed.{Listed}
use Rattle.answers.specs.declared.TextRead.{TextRead}
use Rattle.answers.specs.Answers.{onto, table_of, listed, matches_in, joined_in}

-- the text of a unit of a stream: the same octets that the copy of its content has
abbrev pub text_in : Edition → (s : List ℕ) → TextOf
text_in edition s unit = (joined_in edition s unit).part

-- all octets that are shown of a side
unfoldable pub texts_in : Edition → Side → (s : List ℕ) → List ℕ
texts_in edition side s = texts_of (text_in edition s) (matches_in edition side s)

-- a line for each match, in the list's order
unfoldable pub lines_in : Edition → Side → (s : List ℕ) → List Line
lines_in edition side s = lines_from (text_in edition s) 0 (matches_in edition side s)

-- how many lines are lent; an incomplete last line isn't used
abbrev pub lines_lent : (lines : List ℕ) → ℕ
lines_lent lines = length lines / line_width

-- a refusal has no lines and no octets; of an element count, only 19 has one
abbrev pub text_refused : (number place elements : ℕ) → TextRead
text_refused number place elements = record { number = number; place = place; elements = elements; lines = 0; length = 0 }

-- the answer, by that of the list and by how many octets are needed and lent: the refusals of the list, then 22
abbrev pub text_read_from : Listed → (needed lent : ℕ) → TextRead
text_read_from answer needed lent =
    cond (eqb answer.number 0)
    (cond (ltb lent needed) (text_refused 22 0 0)
    (record { number = 0; place = 0; elements = answer.elements; lines = answer.matches; length = needed }))
    (text_refused answer.number answer.place answer.elements)

-- the numbers with which a table is finished, and the table at exit by the number that is answered: a refusal leaves it as it was, except that 19
-- leaves it finished
abbrev pub finishing : List ℕ
finishing = 0 ∷ 19 ∷ []

abbrev pub table_by : Edition → (s table : List ℕ) → (number : ℕ) → List ℕ
table_by edition s table number = cond (is_in number finishing) (table_of edition s table) table

-- there is room for so many lines
unfoldable pub text_read : Edition → Side → (s table : List ℕ) → (room : ℕ) → (out : List ℕ) → TextRead
text_read edition side s table room out = text_read_from (listed edition side s table room) (length (texts_in edition side s)) (length out)

-- the table, the lines and the output at exit: what was lent is as it was after a refusal, but the table after 19; what is past the counts stays
unfoldable pub shown_table : Edition → Side → (s table : List ℕ) → (room : ℕ) → (out : List ℕ) → List ℕ
shown_table edition side s table room out = table_by edition s table (text_read edition side s table room out).number

unfoldable pub text_lines : Edition → Side → (s table lines out : List ℕ) → List ℕ
text_lines edition side s table lines out =
    cond (eqb (text_read edition side s table (lines_lent lines) out).number 0) (onto (line_numbers (lines_in edition side s)) lines) lines

unfoldable pub text_output : Edition → Side → (s table : List ℕ) → (room : ℕ) → (out : List ℕ) → List ℕ
text_output edition side s table room out = cond (eqb (text_read edition side s table room out).number 0) (onto (texts_in edition side s) out) out

-- the contract of the question: its answer, and the table, the lines and the output at exit
pub record TextOutcome (edition : Edition) (side : Side) (s table lines out : List ℕ) (answer : TextRead) (table_after lines_after out_after : List ℕ) : Type 0 where
  pub answered : answer ≡ text_read edition side s table (lines_lent lines) out
  pub tabled : table_after ≡ shown_table edition side s table (lines_lent lines) out
  pub filled : lines_after ≡ text_lines edition side s table lines out
  pub put : out_after ≡ text_output edition side s table (lines_lent lines) out
