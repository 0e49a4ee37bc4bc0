-- What is promised of parents and children (W-204): "Whose page is this block on?" Of every letter, in an edition.
use Rattle.std.specs.Prelude.{◌≡◌, ◌↔◌, List, [], ◌∷◌, ℕ, suc, ◌<◌, ◌≤◌, length}
use Rattle.std.proofs.Math.Option.{none, some}
use Rattle.std.proofs.Math.ListN.{get_elem?}
use Rattle.octets.specs.Walk.{stream_limit}
use Rattle.normal.specs.Normal.{normal_form}
use Rattle.elements.specs.declared.Edition.{Edition}
use Rattle.elements.specs.Judge.{Element}
use Rattle.letters.specs.Letter.{letter, refusal, letter_in}
use Rattle.parents.specs.Parent.{parent, row_or_none, children, IsParent, climb, most_moves}
use Rattle.answers.specs.declared.Related.{Related}
use Rattle.answers.specs.Table.{rows_lent, parent_at}
use Rattle.answers.specs.Answers.{elements_in, onto, table_of}
use Rattle.answers.specs.Related.{unrelated, related, related_table, related_list}
use Rattle.promises.specs.Demands.{Answered}

-- a row stands somewhere in a list
abbrev pub Among : (row : ℕ) → List ℕ → Type 0
Among row rows = (i : ℕ) × (get_elem? rows i ≡ some row)

-- what the question tells and leaves
pub record Tells (edition : Edition) (s table : List ℕ) (row : ℕ) (list : List ℕ) (answer : Related) (table_after list_after : List ℕ) : Type 0 where
  pub answer_is : related edition s table row (length list) ≡ answer
  pub table_is : related_table edition s table row (length list) ≡ table_after
  pub list_is : related_list edition s table row list ≡ list_after

-- of a letter with these elements
pub record FamilyOf (edition : Edition) (s : List ℕ) (elements : List Element) : Type 0 where
  -- "the last being the parent's row, or 65,535": in every finished table
  pub last : (table : List ℕ) → (j : ℕ) → j < length elements → parent_at (table_of edition s table) j ≡ row_or_none (parent elements j)
  -- the parent carries exactly the shorter identifier, and none is missed
  pub exactly : (j p : ℕ) → (parent elements j ≡ some p) ↔ IsParent elements j p
  -- "Climbing from any row must end, in at most 32 moves": so no row is its own ancestor
  pub ends : (row : ℕ) → climb elements row most_moves ≡ none
  pub no_own_ancestor : (row moves : ℕ) → climb elements row (suc moves) ≡ some row → ⊥
  -- the normal form has the same parents
  pub normal : length (normal_form s) ≤ stream_limit → (j : ℕ) → parent (elements_in edition (normal_form s)) j ≡ parent elements j
  -- "the children of a row in stream order, as row numbers": exactly those whose parent it is, none twice
  pub exactly_children : (row j : ℕ) → Among j (children elements row) ↔ (parent elements j ≡ some row)
  pub ordered : (row i k c d : ℕ) → i < k → get_elem? (children elements row) i ≡ some c → get_elem? (children elements row) k ≡ some d → c < d
  -- "Refusals, after 16, place 0, list untouched"
  pub tells_16 : (table : List ℕ) (row : ℕ) (list : List ℕ) → rows_lent table < length elements → Tells edition s table row list (unrelated 16 0 0) table list
  -- "20 no such row, table untouched too"
  pub tells_20 : (table : List ℕ) (row : ℕ) (list : List ℕ) → length elements ≤ rows_lent table → length elements ≤ row
      → Tells edition s table row list (unrelated 20 0 0) table list
  -- "25 children list too short, table finished"
  pub tells_25 : (table : List ℕ) (row : ℕ) (list : List ℕ) → length elements ≤ rows_lent table → row < length elements
      → length list < length (children elements row) → Tells edition s table row list (unrelated 25 0 (length elements)) (table_of edition s table) list
  pub tells : (table : List ℕ) (row : ℕ) (list : List ℕ) → length elements ≤ rows_lent table → row < length elements
      → length (children elements row) ≤ length list
      → Tells edition s table row list (record { number = 0; place = 0; elements = length elements; children = length (children elements row) })
      (table_of edition s table) (onto (children elements row) list)

-- of every stream
pub record Family (edition : Edition) : Type 0 where
  -- what it may give, and where
  pub told : (s table : List ℕ) (row room : ℕ)
      → Answered s (16 ∷ 20 ∷ 25 ∷ []) (related edition s table row room).number (related edition s table row room).place
  -- a refusal lists no rows, and but for 25 it has no element count
  pub counts : (s table : List ℕ) (row room : ℕ) → ((related edition s table row room).number ≡ 0 → ⊥) → ((related edition s table row room).children ≡ 0)
      × (((related edition s table row room).number ≡ 25 → ⊥) → (related edition s table row room).elements ≡ 0)
  -- "list untouched"; the table is untouched too, but that 25 leaves it finished
  pub untouched : (s table : List ℕ) (row : ℕ) (list : List ℕ) → ((related edition s table row (length list)).number ≡ 0 → ⊥)
      → related_list edition s table row list ≡ list
  pub table_untouched : (s table : List ℕ) (row room : ℕ) → ((related edition s table row room).number ≡ 0 → ⊥)
      → ((related edition s table row room).number ≡ 25 → ⊥) → related_table edition s table row room ≡ table
  pub table_finished : (s table : List ℕ) (row room : ℕ) → (related edition s table row room).number ≡ 25
      → related_table edition s table row room ≡ table_of edition s table
  pub of_letter : (s : List ℕ) (headers : ℕ) (elements : List Element) → letter_in edition s ≡ letter headers elements → FamilyOf edition s elements
  -- what rules 1 to 15 refuse is refused by that number at that place
  pub of_refusal : (s : List ℕ) (number place headers : ℕ) → letter_in edition s ≡ refusal number place headers → (table : List ℕ) (row : ℕ) (list : List ℕ)
      → Tells edition s table row list (unrelated number place 0) table list
