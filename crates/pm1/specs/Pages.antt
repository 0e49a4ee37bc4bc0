-- The pages of a letter, with the verdict on each. W-210: "For each layout page (type 2) and page class"; "Verdicts lie in stream order." Over the tree
-- of the letter: places and length octets are no part of it.
use Rattle.std.specs.Prelude.{ℕ, Bool, ◌&&◌, List, [], ◌∷◌, eqb}
use Rattle.headers.specs.Head.{is_in}
use Rattle.tree.specs.Tree.{Tree, tree_of}
use Rattle.elements.specs.declared.Edition.{Edition}
use Rattle.reading.specs.Match.{for_each, only}
use Rattle.promises.specs.Refusals.{TopItem, top_items, says_in}
use Rattle.dimensions.specs.Dimensions.{verdict_of}

-- a record of the list: a row of the table, and the verdict on it
pub record Page : Type 0 where
  pub element : ℕ
  pub verdict : ℕ

-- a page class or a page: kind 1 or 2, object type 2
abbrev pub is_page : (kind object : ℕ) → Bool
is_page kind object = is_in kind (1 ∷ 2 ∷ []) && eqb object 2

-- element j, if it is one, with the verdict on its items
abbrev pub page_of : Edition → (j : ℕ) → TopItem → List Page
page_of edition j item = only (is_page (says_in edition item).kind (says_in edition item).object) (record { element = j; verdict = verdict_of item.run })

-- the pages of a letter with this tree
abbrev pub pages_of : Edition → Tree → List Page
pages_of edition tree = for_each 0 (top_items tree) (page_of edition)

abbrev pub pages_in : Edition → (s : List ℕ) → List Page
pages_in edition s = pages_of edition (tree_of s)

-- the list is lent as numbers, two a record
abbrev pub page_width : ℕ
page_width = 2

-- the numbers of records, one record after another
unfoldable pub page_numbers : List Page → List ℕ
page_numbers [] = []
page_numbers (p ∷ ps) = p.element ∷ p.verdict ∷ page_numbers ps
