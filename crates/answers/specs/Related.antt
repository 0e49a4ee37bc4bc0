-- The children of a row (W-204): "Also give, in one lent list, the children of a row in stream order, as row numbers." "Refusals, after 16, place 0,
-- list untouched: 20 no such row, table untouched too; 25 children list too short, table finished."
use Rattle.std.specs.Prelude.{◌≡◌, ℕ, cond, List, [], ◌∷◌, eqb, ltb, leb, length}
use Rattle.headers.specs.Head.{is_in}
use Rattle.elements.specs.declared.Edition.{Edition}
use Rattle.letters.specs.Letter.{Letter, letter, refusal, letter_in}
use Rattle.parents.specs.Parent.{children}
use Rattle.answers.specs.declared.Related.{Related}
use Rattle.answers.specs.Table.{too_few_rows}
use Rattle.answers.specs.Answers.{elements_in, onto, table_of}

-- a refusal; only 25 has an element count, as 19 has in the reading list
abbrev pub unrelated : (number place elements : ℕ) → Related
unrelated number place elements = record { number = number; place = place; elements = elements; children = 0 }

abbrev pub related_by : Letter → (table : List ℕ) → (row room : ℕ) → Related
related_by (refusal number place headers) table row room = unrelated number place 0
related_by (letter headers elements) table row room =
    cond (too_few_rows table elements) (unrelated 16 0 0)
    (cond (leb (length elements) row) (unrelated 20 0 0)
    (cond (ltb room (length (children elements row))) (unrelated 25 0 (length elements))
    (record { number = 0; place = 0; elements = length elements; children = length (children elements row) })))

-- the list that is lent has room for so many rows
unfoldable pub related : Edition → (s table : List ℕ) → (row room : ℕ) → Related
related edition s table row room = related_by (letter_in edition s) table row room

-- 20 "table untouched too"; 25 "table finished"
unfoldable pub related_table : Edition → (s table : List ℕ) → (row room : ℕ) → List ℕ
related_table edition s table row room = cond (is_in (related edition s table row room).number (0 ∷ 25 ∷ [])) (table_of edition s table) table

-- the children of a row of a stream that is a letter
abbrev pub children_in : Edition → (s : List ℕ) → (row : ℕ) → List ℕ
children_in edition s row = children (elements_in edition s) row

-- the list at exit, after a number: "list untouched", and the children in front of what it held
abbrev pub children_onto : Edition → (s : List ℕ) → (row number : ℕ) → (list : List ℕ) → List ℕ
children_onto edition s row number list = cond (eqb number 0) (onto (children_in edition s row) list) list

unfoldable pub related_list : Edition → (s table : List ℕ) → (row : ℕ) → (list : List ℕ) → List ℕ
related_list edition s table row list = children_onto edition s row (related edition s table row (length list)).number list

-- the contract of the question: its answer, and the table and the list at exit
pub record ChildrenOutcome (edition : Edition) (s table : List ℕ) (row : ℕ) (list : List ℕ) (answer : Related) (table_after list_after : List ℕ) : Type 0 where
  pub answered : answer ≡ related edition s table row (length list)
  pub tabled : table_after ≡ related_table edition s table row (length list)
  pub filled : list_after ≡ related_list edition s table row list
