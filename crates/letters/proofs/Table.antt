-- The table of a walked stream: its elements meet end to end, each pair lies in its element, and rows say what the elements of an
-- accepted letter say.
use mathlib.Core.Path.{◌≡◌, refl, subst}
use mathlib.Core.List.{List}
use mathlib.Core.Option.{some}
use Prim.Native.Nat.{ℕ, zero, suc}
use native.Mathlib.Omega.{arith}
use lib.ListN.{length, get_elem?}
use Rattle.headers.specs.Head.{type_field}
use Rattle.octets.specs.Walk.{Items, no_items, item, start_of}
use Rattle.octets.proofs.RulesHold.{derives}
use Rattle.tree.specs.Tree.{plain, tree_of}
use Rattle.runs.specs.Runs.{whole_stream, Fine}
use Rattle.runs.proofs.Laws.{start-at}
use Rattle.elements.specs.declared.Row.{Row}
use Rattle.elements.specs.declared.Edition.{Edition}
use Rattle.elements.specs.Shape.{Shape, shape_of}
use Rattle.elements.specs.Judge.{identifier_octet, logical_octet, portions_octet, Element}
use Rattle.elements.specs.ElementRows.{body_in, content_octet, row_of, rows_of}
use Rattle.letters.specs.Letter.{items_of_stream, rows_in, EndToEnd, PairsWithin}
use Rattle.letters.specs.Scratch.{LetterRows}
use Rattle.letters.specs.Apart.{Apart}
use Rattle.judging.proofs.Rows.{RowOf, row-of}
use Rattle.letters.proofs.Nested.{Nested, Separate, separate, bounds-at-within, body-within}
use Rattle.letters.proofs.Apart.{accepted-apart}

rows-meet : (edition : Edition) (s : List ℕ) (items : Items) → EndToEnd (start_of (length s) items) (length s) (rows_of edition s items)
unfolding rows_of row_of
rows-meet edition s no_items = refl
rows-meet edition s (item at code first past inside after) = (refl, rows-meet edition s after)

-- "Elements meet end to end from 0 to the stream's length."
pub end_to_end : (edition : Edition) (s : List ℕ) → Fine s (whole_stream s) → EndToEnd 0 (length s) (rows_in edition s)
end_to_end edition s fine =
    subst (λ (from : ℕ). EndToEnd from (length s) (rows_in edition s)) (start-at fine refl) (rows-meet edition s (items_of_stream s))

row_within : (shape : Shape) (s : List ℕ) (first past : ℕ) (items : Items) → Nested first past items → PairsWithin (row_of shape s first past items)
unfolding row_of
row_within shape s first past items nested =
    let contents = shape.contents in
    let body = body-within first past contents items nested in record {
      identifier = bounds-at-within first past (identifier_octet contents) (body_in contents items) body;
      logical = bounds-at-within first past (logical_octet contents) (body_in contents items) body;
      portions = bounds-at-within first past (portions_octet contents) (body_in contents items) body;
      content = bounds-at-within first past (content_octet contents (plain s items)) items nested;
    }

rows-within : (edition : Edition) (s : List ℕ) (items : Items) → Separate (length s) items → (j : ℕ) (row : Row)
    → get_elem? (rows_of edition s items) j ≡ some row → PairsWithin row
unfolding rows_of
rows-within edition s no_items w j row e = let z : ◌≡◌ {A = ℕ} 0 1 = cc in absurd (omega arith)
rows-within edition s (item at code first past inside after) w zero row e =
    let shape = shape_of edition (type_field code) in
    let own : row_of shape s at (start_of (length s) after) inside ≡ row = cc in
    subst PairsWithin own (row_within shape s at (start_of (length s) after) inside w.0)
rows-within edition s (item at code first past inside after) w (suc j) row e = rows-within edition s after w.1 j row e

-- every pair of a row lies in its element
pub pairs_within : (edition : Edition) (s : List ℕ) → Fine s (whole_stream s) → (j : ℕ) (row : Row)
    → get_elem? (rows_in edition s) j ≡ some row → PairsWithin row
pairs_within edition s fine =
    let r = whole_stream s in
    rows-within edition s (items_of_stream s) (separate (derives r.room s r.at r.limit r.marked fine.order) refl fine.whole)

-- the rows of a letter
module _ {edition : Edition} {s scratch : List ℕ} {count : ℕ} (letter : LetterRows edition s scratch count) where
  -- no two of its elements share a name
  pub letter-apart : Apart letter.elements
  letter-apart = accepted-apart edition (tree_of s) letter.elements letter.judged

  -- each of them has its row
  pub letter-row : (j : ℕ) (e : Element) → get_elem? letter.elements j ≡ some e → RowOf s (rows_in edition s) j e
  letter-row = row-of letter.holds.saying
