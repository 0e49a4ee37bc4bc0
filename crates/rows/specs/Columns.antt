-- What the code reads of a row of the scratch. Document 01, "Table, list, part, normal form". Says nothing of the other columns.
use Rattle.std.specs.Prelude.{Bool, List, ℕ, ◌≤◌, ◌*◌, ◌+◌, ◌<◌, ltb, length, get_or}
use Rattle.std.proofs.Math.Seq.{slice}
use Rattle.contents.specs.declared.Span.{Span}
use Rattle.runs.specs.declared.Run.{Run}
use Rattle.runs.specs.Runs.{definite_run}
use Rattle.rows.specs.Rows.{scratch_width}

-- where a row has "first and past for the element"
abbrev pub whole_column : ℕ
whole_column = 2

-- where a row has the first of its identifier; its past is next to it
abbrev pub identifier_column : ℕ
identifier_column = 4

-- where a row has the first of "the unit's logical identifier"
abbrev pub logical_column : ℕ
logical_column = 6

-- where a row has the first of its portions
abbrev pub portions_column : ℕ
portions_column = 8

-- the kind of row j
abbrev pub kind_at : (rows : List ℕ) (j : ℕ) → ℕ
kind_at rows j = get_or rows (j * scratch_width) 0

-- "first and past" of row j at a column
abbrev pub first_at : (rows : List ℕ) (column j : ℕ) → ℕ
first_at rows column j = get_or rows (j * scratch_width + column) 0

abbrev pub past_at : (rows : List ℕ) (column j : ℕ) → ℕ
past_at rows column j = get_or rows (j * scratch_width + column + 1) 0

-- both as a pair
abbrev pub span_at : (rows : List ℕ) (column j : ℕ) → Span
span_at rows column j = record { first = first_at rows column j; past = past_at rows column j }

-- whether a pair bounds a value that is not empty
abbrev pub there : Span → Bool
there pair = ltb pair.first pair.past

-- the run of the portions, read again from the bounds of their value: it has primitive items alone, which takes one level
abbrev pub portions_run : Span → Run
portions_run v = definite_run v.first v.past 1

-- those of row j
abbrev pub portions_at : (rows : List ℕ) → (j : ℕ) → Run
portions_at rows j = portions_run (span_at rows portions_column j)

-- the value that they bound
abbrev pub value_at : (s rows : List ℕ) (column j : ℕ) → List ℕ
value_at s rows column j = slice (first_at rows column j) (past_at rows column j) s

-- row j has a value there; "Absent is 0 and 0", and no identifier is empty
abbrev pub Present : (rows : List ℕ) (column j : ℕ) → Type 0
Present rows column j = first_at rows column j < past_at rows column j

-- the first n rows lie in the table, and what they have at a column in the stream
pub record Bounded (s rows : List ℕ) (column n : ℕ) : Type 0 where
  pub in-row : column + 1 < scratch_width
  pub in_table : n * scratch_width ≤ length rows
  pub ordered : (j : ℕ) → j < n → first_at rows column j ≤ past_at rows column j
  pub inside : (j : ℕ) → j < n → past_at rows column j ≤ length s
