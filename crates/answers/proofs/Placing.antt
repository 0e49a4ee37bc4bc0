-- A row has its element's place, so what a pass over the rows of a letter finds is what the definition says.
use Rattle.std.specs.Prelude.{Option, None, Some}
use mathlib.Core.Path.{◌≡◌, ap, sym, ◌∙◌}
use mathlib.Core.Bool.{cond}
use mathlib.Core.Option.{some}
use mathlib.Core.List.{List}
use Prim.Native.Nat.{ℕ, zero, suc, ◌<◌}
use native.Mathlib.Omega.{arith}
use lib.Dec.{ltb}
use lib.ListN.{length, get_elem?}
use borrow.Author.Tests.{ltb-true}
use borrow.Table.Steps.{cases}
use Rattle.octets.specs.Told.{ended}
use Rattle.octets.specs.Walk.{Items, no_items, item, walk_of}
use Rattle.tree.specs.Tree.{tree_of}
use Rattle.rows.specs.Columns.{whole_column, first_at}
use Rattle.elements.specs.declared.Edition.{Edition}
use Rattle.elements.specs.declared.Row.{Row}
use Rattle.elements.specs.ElementRows.{row_of, rows_of, place_of}
use Rattle.judging.proofs.Lists.{at-below}
use Rattle.judging.proofs.Rows.{first-at}
use Rattle.letters.specs.Letter.{Letter, items_of_stream, letter, letter_in}
use Rattle.letters.specs.Scratch.{LetterRows}
use Rattle.letters.proofs.Table.{letter-row}
use Rattle.letters.proofs.Telling.{rows_tell}
use Rattle.order.specs.declared.Class.{Class}
use Rattle.order.specs.Question.{verdict, out_of_order_number, element_start}
use Rattle.order.specs.Computed.{by_found, by_letter, order_in}
use Rattle.order.specs.Fault.{FaultIn}
use Rattle.order.proofs.Accepted.{judged-aside}
use Rattle.answers.specs.Orders.{fault_place}

-- the row of an item begins where the item does
row-place : (edition : Edition) (s : List ℕ) (items : Items) (k : ℕ) (row : Row) → get_elem? (rows_of edition s items) k ≡ some row
    → row.whole.first ≡ place_of k items
unfolding rows_of row_of place_of
row-place edition s no_items k row e = let z : ◌≡◌ {A = ℕ} 0 1 = cc in absurd (omega arith)
row-place edition s (item at code first past inside after) zero row e = ap whole-first (sym (row_is e))
  where
    whole-first : Row → ℕ
    whole-first r = r.whole.first

    row_is : {r : Row} → some r ≡ some row → r ≡ row
    row_is f = cc
row-place edition s (item at code first past inside after) (suc k) row e = row-place edition s after k row e

module _ {edition : Edition} {s rows : List ℕ} {count : ℕ} (held : LetterRows edition s rows count) where
  place_at : (k : ℕ) → k < count → first_at rows whole_column k ≡ place_of k (items_of_stream s)
  place_at k below =
      let (e, there) = at-below held.elements k (omega (arith, held.holds.counted)) in
      let own = letter-row held k e there in
      first-at held.holds k own.row own.stands whole_column (omega arith) ∙ row-place edition s (items_of_stream s) k own.row own.stands

  module _ {headers : ℕ} (walked : walk_of s ≡ ended (length s) headers) (class : Class) where
    is_letter : letter_in edition s ≡ letter headers held.elements
    unfolding letter_in
    is_letter = rw (walked, held.judged)

    by-fault : (found : Option ℕ) → FaultIn class s rows count found → by_found s held.elements found ≡ order_in edition class s
    unfolding order_in
    by-fault found f =
        let aside = judged-aside edition (tree_of s) held.elements held.judged in
        sym (ap (λ (l : Letter). by_letter class s l) is_letter
        ∙ ap (λ (x : Option ℕ). by_found s held.elements x) (sym (f held.elements (rows_tell held) aside)))

    -- nothing was found
    pub none_found : (found : Option ℕ) → FaultIn class s rows count found → found ≡ None → verdict 0 0 ≡ order_in edition class s
    none_found found f e = ap (λ (x : Option ℕ). by_found s held.elements x) (sym e) ∙ by-fault found f

    -- a fault was found at a row, or past them
    pub fault-found : (found : Option ℕ) (k : ℕ) → FaultIn class s rows count found → found ≡ Some k → fault_place s rows count k ≡ order_in edition class s
    fault-found found k f e =
        ap (λ (p : ℕ). verdict out_of_order_number p) same-octet
        ∙ ap (λ (x : Option ℕ). by_found s held.elements x) (sym e) ∙ by-fault found f
      where
        by_count : cond (ltb k count) (first_at rows whole_column k) (length s) ≡ cond (ltb k count) (place_of k (items_of_stream s)) (length s)
        by_count = cases (ltb k count) (λ t. rw (t, place_at k (ltb-true k count t))) (λ t. rw t)

        same-octet : cond (ltb k count) (first_at rows whole_column k) (length s) ≡ element_start s held.elements k
        same-octet = by_count ∙ ap (λ (n : ℕ). cond (ltb k n) (place_of k (items_of_stream s)) (length s)) (sym held.holds.counted)
