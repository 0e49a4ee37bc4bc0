-- The question of the PM1 desk (W-210): what it answers, and what it leaves in the table and the list that it was lent. "Refusals, after 15, place 0,
-- list untouched: 16 for its lent table; 30 verdict list shorter than the pages, table finished."
use Rattle.std.specs.Prelude.{◌≡◌, ℕ, ◌/◌, cond, List, [], ◌∷◌, eqb, ltb, length}
use Rattle.headers.specs.Head.{is_in}
use Rattle.elements.specs.declared.Edition.{Edition}
use Rattle.answers.specs.declared.Checked.{Checked}
use Rattle.answers.specs.Answers.{onto, checked, table_of}
use Rattle.pm1.specs.declared.Paged.{Paged}
use Rattle.pm1.specs.Pages.{pages_in, page_width, page_numbers}

-- 30 "verdict list shorter than the pages"
abbrev pub list_too_short : ℕ
list_too_short = 30

-- how many records a lent list has; an incomplete last record isn't used
abbrev pub pages_lent : (list : List ℕ) → ℕ
pages_lent list = length list / page_width

-- after the check: its refusals 1 to 16 with no counts; 30, which keeps the element count; or how many pages there are
abbrev pub paged_after : Checked → (pages room : ℕ) → Paged
paged_after c pages room =
    cond (eqb c.number 0)
    (cond (ltb room pages) (record { number = list_too_short; place = 0; elements = c.elements; pages = 0 })
    (record { number = 0; place = 0; elements = c.elements; pages = pages }))
    (record { number = c.number; place = c.place; elements = 0; pages = 0 })

-- the list that is lent has room for so many records
unfoldable pub paged : Edition → (s table : List ℕ) → (room : ℕ) → Paged
paged edition s table room = paged_after (checked edition s table) (length (pages_in edition s)) room

-- "table finished", as the check leaves it; with any other refusal it is untouched
unfoldable pub paged_table : Edition → (s table : List ℕ) → (room : ℕ) → List ℕ
paged_table edition s table room = cond (is_in (paged edition s table room).number (0 ∷ list_too_short ∷ [])) (table_of edition s table) table

-- "list untouched"; else the numbers of the pages in front of what it held
unfoldable pub paged_list : Edition → (s table list : List ℕ) → List ℕ
paged_list edition s table list =
    cond (eqb (paged edition s table (pages_lent list)).number 0) (onto (page_numbers (pages_in edition s)) list) list

-- the contract of the question: its answer, and the table and the list at exit
pub record PagesOutcome (edition : Edition) (s table list : List ℕ) (answer : Paged) (table_after list_after : List ℕ) : Type 0 where
  pub answered : answer ≡ paged edition s table (pages_lent list)
  pub tabled : table_after ≡ paged_table edition s table (pages_lent list)
  pub filled : list_after ≡ paged_list edition s table list
