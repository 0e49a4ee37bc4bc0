-- The pages by the numbers of a finished table are the pages of the letter: row j has the kind and the object type of item j.
use mathlib.Core.Path.{◌≡◌, refl, ap, sym, ◌∙◌}
use mathlib.Core.Bool.{false}
use mathlib.Core.List.{List, ◌∷◌, ◌++◌}
use mathlib.Core.Option.{some}
use Prim.Native.Nat.{ℕ, suc, ◌+◌, ◌*◌, ◌≤◌}
use native.Mathlib.Omega.{arith}
use lib.ListN.{length, get_or, drop, get_elem?}
use lib.Seq.{slice}
use borrow.Table.Steps.{cases}
use Rattle.headers.specs.Head.{constructed, type_field}
use Rattle.octets.specs.Walk.{Items, no_items, deepest, start_of}
use Rattle.tree.specs.Tree.{Tree, plain, formed}
use Rattle.elements.specs.declared.Edition.{Edition}
use Rattle.elements.specs.declared.Row.{Row}
use Rattle.elements.specs.Shape.{shape_of}
use Rattle.elements.specs.ElementRows.{cells, row_of, rows_of}
use Rattle.letters.specs.Letter.{items_of_stream, rows_in}
use Rattle.reading.specs.Match.{for_each}
use Rattle.answers.specs.Table.{table_width, table_numbers}
use Rattle.answers.specs.Answers.{elements_in, table_of}
use Rattle.answers.proofs.Tabling.{cell-there}
use Rattle.promises.specs.Refusals.{TopItem, top_items, says_in}
use Rattle.promises.proofs.Telling.{Proper, no_more, more}
use Rattle.pm1.specs.Pages.{Page, page_of, pages_in}
use Rattle.pm1.specs.ByTable.{kind_at, object_at, page_at, pages_at}
use Rattle.promises.proofs.Accepted.{Accepted, items-proper}

module _ (edition : Edition) (s table : List ℕ) where
  -- the table tells the kind and the object type of rows of which the first is row j
  abbrev Tells : (j : ℕ) → List Row → Type 0
  Tells j rows = (k : ℕ) (row : Row) → get_elem? rows k ≡ some row → (kind_at table (j + k) ≡ row.kind) × (object_at table (j + k) ≡ row.object)

  abbrev item_with : (code : ℕ) → Items → TopItem
  item_with code inside = record { type = type_field code; run = plain s inside }

  first-top : (code : ℕ) (value : List ℕ) (inside : Items) (after : Tree) → (constructed code ≡ false → inside ≡ no_items)
      → top_items (formed (constructed code) (type_field code) value (plain s inside) after) ≡ item_with code inside ∷ top_items after
  first-top code value inside after n =
      cases (constructed code)
      (λ c. rw c)
      (λ c. let e : inside ≡ no_items = n c in rw (c, e))

  row-page : (j code first past : ℕ) (inside : Items) (row : Row) → row ≡ row_of (shape_of edition (type_field code)) s first past inside
      → (kind_at table (j + 0) ≡ row.kind) × (object_at table (j + 0) ≡ row.object) → page_at table j (plain s inside) ≡ page_of edition j (item_with code inside)
  unfolding row_of
  row-page j code first past inside row e told =
      let z : j + 0 ≡ j = omega arith in
      let kind : kind_at table j ≡ (says_in edition (item_with code inside)).kind = ap (kind_at table) (sym z) ∙ told.0 ∙ ap (λ (r : Row). r.kind) e in
      let object : object_at table j ≡ (says_in edition (item_with code inside)).object = ap (object_at table) (sym z) ∙ told.1 ∙ ap (λ (r : Row). r.object) e in
      rw (kind, object)

  pages-told : {i : Items} → Proper s deepest i → (j : ℕ) → Tells j (rows_of edition s i)
      → pages_at s table j i ≡ for_each j (top_items (plain s i)) (page_of edition)
  unfolding pages_at rows_of for_each
  pages-told no_more j t = refl
  pages-told (more {at = at} {code} {start} {past} {inside} {after} there n nothing-in codes p q) j t =
      let row : Row = row_of (shape_of edition (type_field code)) s at (start_of (length s) after) inside in
      let own : page_at table j (plain s inside) ≡ page_of edition j (item_with code inside) = row-page j code at
      (start_of (length s) after) inside row refl (t 0 row refl) in
      let others : pages_at s table (suc j) after ≡ for_each (suc j) (top_items (plain s after)) (page_of edition) =
      pages-told q (suc j) (λ k other e. let z : suc j + k ≡ j + suc k = omega arith in rw z (t (suc k) other e)) in
      ap (λ (l : List Page). l ++ pages_at s table (suc j) after) own ∙ ap (λ (l : List Page). page_of edition j (item_with code inside) ++ l) others
      ∙ sym (ap (λ (ts : List TopItem). for_each j ts (page_of edition)) (first-top code (slice start past s) inside (plain s after) nothing-in))

-- so it is for the table that the check leaves
module _ {edition : Edition} {s table : List ℕ} (a : Accepted edition s table) (after : List ℕ) (e : after ≡ table_of edition s table) where
  cell : (k : ℕ) (row : Row) → get_elem? (rows_in edition s) k ≡ some row → (c : ℕ) → c ≤ 1 → get_or after (k * table_width + c) 0 ≡ get_or (cells row) c 0
  cell k row there c l =
      ap (λ (t : List ℕ). get_or t (k * table_width + c) 0) e
      ∙ cell-there (elements_in edition s) 0 (rows_in edition s)
      (drop (length (table_numbers (elements_in edition s) (rows_in edition s))) table) k row there c (omega arith)

  tells : Tells edition s after 0 (rows_in edition s)
  tells k row there =
      let z : k * table_width + 0 ≡ k * table_width = omega arith in
      let y : 0 + k ≡ k = omega arith in (
        ap (kind_at after) y ∙ ap (λ (n : ℕ). get_or after n 0) (sym z) ∙ cell k row there 0 (omega arith),
        ap (object_at after) y ∙ cell k row there 1 (omega arith),
      )

  pub pages-by-table : pages_at s after 0 (items_of_stream s) ≡ pages_in edition s
  pages-by-table = pages-told edition s after (items-proper a) 0 tells
