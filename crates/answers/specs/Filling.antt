-- What the code that fills the lent table has done, row by row, and what it asks of the filled one.
use Rattle.std.specs.Prelude.{◌≡◌, ℕ, zero, suc, ◌*◌, List, [], ◌++◌, eqb, drop}
use Rattle.std.proofs.Math.Option.{some}
use Rattle.std.proofs.Math.ListN.{get_elem?}
use Rattle.std.proofs.lemmas.List.Edits.{sets}
use Rattle.elements.specs.declared.Row.{Row}
use Rattle.reading.specs.Match.{only}
use Rattle.letters.specs.Letter.{rows_in}
use Rattle.letters.specs.Scratch.{LetterRows}
use Rattle.answers.specs.Table.{table_width, row_numbers, table_numbers, parent_at}
use Rattle.elements.specs.declared.Edition.{Edition}
use Rattle.answers.specs.declared.Related.{Related}
use Rattle.answers.specs.Related.{related, related_table, children_onto}

-- row j is put in its place
abbrev pub PutsRow : (s scratch : List ℕ) (count j : ℕ) (table table_after : List ℕ) → Type 0
PutsRow s scratch count j table table_after =
    (edition : Edition) (letter : LetterRows edition s scratch count) (row : Row) → get_elem? (rows_in edition s) j ≡ some row
    → table_after ≡ sets table (j * table_width) (row_numbers letter.elements j row)

-- all rows are, in front of what the table held
abbrev pub Fills : (s scratch : List ℕ) (count : ℕ) (table table_after : List ℕ) → Type 0
Fills s scratch count table table_after =
    (edition : Edition) (letter : LetterRows edition s scratch count)
    → table_after ≡ table_numbers letter.elements (rows_in edition s) ++ drop (count * table_width) table

-- of so many rows from j on, those that have this one as their parent
unfoldable pub rows_with : (table : List ℕ) → (row j left : ℕ) → List ℕ
rows_with table row j zero = []
rows_with table row j (suc k) = only (eqb (parent_at table j) row) j ++ rows_with table row (suc j) k

-- the question of the children, for a list of which no more than so many numbers may be used
pub record Relates (edition : Edition) (s table : List ℕ) (row room : ℕ) (list : List ℕ) (answer : Related) (table_after list_after : List ℕ) : Type 0 where
  pub answered : answer ≡ related edition s table row room
  pub tabled : table_after ≡ related_table edition s table row room
  pub filled : list_after ≡ children_onto edition s row answer.number list
