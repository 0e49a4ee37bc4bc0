-- The numbers of rows, one row more, and what the scratch has of a row: what its element says.
use mathlib.Core.Path.{◌≡◌, refl, ap, sym, ◌∙◌}
use mathlib.Core.List.{List, [], ◌∷◌, ◌++◌, append_assoc, append-nil}
use mathlib.Core.Option.{some}
use Prim.Native.Nat.{ℕ, zero, suc, ◌+◌, ◌*◌, ◌<◌, ◌≤◌}
use native.Mathlib.Omega.{arith}
use lib.ListN.{length, get_or, take, drop, get_elem?, length-append, get_or-append}
use lib.Seq.{sets, sets-eq, get_or-take, get_or-append-add, take_at}
use Rattle.rows.specs.Rows.{scratch_width}
use Rattle.rows.specs.Columns.{kind_at, first_at, past_at}
use Rattle.elements.specs.declared.Row.{Row}
use Rattle.elements.specs.Judge.{Element}
use Rattle.elements.specs.ElementRows.{cells, numbers}
use Rattle.elements.specs.Says.{Says}
use Rattle.judging.specs.Done.{Saying, none, more, DoneRows}
use Rattle.judging.proofs.Lists.{Last, before, last, below_length, at_front, at-end, at_last}

pub numbers-length : (rows : List Row) → length (numbers rows) ≡ length rows * scratch_width
unfolding numbers
numbers-length [] = refl
numbers-length (row ∷ rows) = length-append (cells row) (numbers rows) ∙ omega (arith, numbers-length rows)

numbers_more : (rows : List Row) (row : Row) → numbers (rows ++ row ∷ []) ≡ numbers rows ++ cells row
unfolding numbers
numbers_more [] row = append-nil (cells row)
numbers_more (r ∷ rows) row =
    ap (λ (l : List ℕ). cells r ++ l) (numbers_more rows row) ∙ sym (append_assoc (cells r) (numbers rows) (cells row))

-- one row more is written
pub written-more : (scratch : List ℕ) (n : ℕ) (rows : List Row) (row : Row) → take (n * scratch_width) scratch ≡ numbers rows → length rows ≡ n
    → n * scratch_width + scratch_width ≤ length scratch → take ((n + 1) * scratch_width) (sets scratch (n * scratch_width) (cells row)) ≡ numbers
    (rows ++ row ∷ [])
written-more scratch n rows row t size long =
    let stored : sets scratch (n * scratch_width) (cells row) ≡ take (n * scratch_width) scratch ++ cells row ++ drop
    (n * scratch_width + scratch_width) scratch = sets-eq (cells row) scratch (n * scratch_width) long in
    let all : sets scratch (n * scratch_width) (cells row) ≡ numbers (rows ++ row ∷ []) ++ drop (n * scratch_width + scratch_width) scratch = stored
    ∙ rw (t, numbers_more rows row) in
    let whole : length (numbers (rows ++ row ∷ [])) ≡ (n + 1) * scratch_width = numbers-length (rows ++ row ∷ []) ∙ simp length-append (omega arith) in
    ap (take ((n + 1) * scratch_width)) all ∙ take_at (numbers (rows ++ row ∷ [])) (drop (n * scratch_width + scratch_width) scratch)
    ((n + 1) * scratch_width) whole

pub numbers-at : (rows : List Row) (j : ℕ) (row : Row) → get_elem? rows j ≡ some row → (c : ℕ) → c < scratch_width
    → get_or (numbers rows) (j * scratch_width + c) 0 ≡ get_or (cells row) c 0
unfolding numbers
numbers-at [] j row e c l = let z : ◌≡◌ {A = ℕ} 0 1 = cc in absurd (omega arith)
numbers-at (r ∷ rows) zero row e c l =
    let i : r ≡ row = cc in
    let k : 0 * scratch_width + c ≡ c = omega arith in
    ap (λ (m : ℕ). get_or (cells r ++ numbers rows) m 0) k ∙ get_or-append (cells r) (numbers rows) 0 c l ∙ ap (λ (x : Row). get_or (cells x) c 0) i
numbers-at (r ∷ rows) (suc j) row e c l =
    let k : suc j * scratch_width + c ≡ scratch_width + (j * scratch_width + c) = omega arith in
    ap (λ (m : ℕ). get_or (cells r ++ numbers rows) m 0) k ∙ get_or-append-add (cells r) (numbers rows) (j * scratch_width + c) 0 ∙ numbers-at rows j row e c l

pub saying-length : {s : List ℕ} {rows : List Row} {elements : List Element} → Saying s rows elements → length rows ≡ length elements
saying-length none = refl
saying-length (more {row} {element} {rows} {elements} w says) =
    length-append rows (row ∷ []) ∙ ap (λ (k : ℕ). k + 1) (saying-length w) ∙ sym (length-append elements (element ∷ []))

-- the row of element j
pub record RowOf (s : List ℕ) (rows : List Row) (j : ℕ) (element : Element) : Type 0 where
  pub row : Row
  pub stands : get_elem? rows j ≡ some row
  pub says : Says s row element

row_last : {s : List ℕ} {rows : List Row} {elements : List Element} {row : Row} {element : Element} → Saying s rows elements → Says s row element
    → (j : ℕ) (x : Element) → (get_elem? elements j ≡ some x → RowOf s rows j x) → Last elements element j x → RowOf s (rows ++ row ∷ []) j x
row_last {rows = rows} {row = row} w says j x old (before e) =
    let r = old e in record { row = r.row; stands = at_front rows (row ∷ []) j r.row r.stands; says = r.says }
row_last {rows = rows} {row = row} w says j x old (last p q) =
    record { row = row; stands = at-end rows row j (p ∙ sym (saying-length w)); says = rw q says }

pub row-of : {s : List ℕ} {rows : List Row} {elements : List Element} → Saying s rows elements → (j : ℕ) (x : Element)
    → get_elem? elements j ≡ some x → RowOf s rows j x
row-of none j x e = let z : ◌≡◌ {A = ℕ} 0 1 = cc in absurd (omega arith)
row-of (more {row} {element} {rows} {elements} w says) j x e = row_last w says j x (λ o. row-of w j x o) (at_last elements element j x e)

-- what the scratch has of row j
module _ {s scratch : List ℕ} {n : ℕ} {rows : List Row} {elements : List Element}
    (holds : DoneRows s scratch n rows elements) (j : ℕ) (row : Row) (stands : get_elem? rows j ≡ some row) where
  pub row_below : j < n
  row_below = omega (arith, below_length rows j row stands, saying-length holds.saying, holds.counted)

  pub cell_at : (c : ℕ) → c < scratch_width → get_or scratch (j * scratch_width + c) 0 ≡ get_or (cells row) c 0
  cell_at c l =
      let b = row_below in
      sym (get_or-take (n * scratch_width) scratch (j * scratch_width + c) 0 (omega arith)) ∙ ap (λ (t : List ℕ). get_or t (j * scratch_width + c) 0) holds.written
      ∙ numbers-at rows j row stands c l

  pub kind-at : kind_at scratch j ≡ row.kind
  kind-at = let k : j * scratch_width ≡ j * scratch_width + 0 = omega arith in ap (λ (i : ℕ). get_or scratch i 0) k ∙ cell_at 0 (omega arith)

  pub first-at : (c : ℕ) → c < scratch_width → first_at scratch c j ≡ get_or (cells row) c 0
  first-at c l = cell_at c l

  pub past-at : (c : ℕ) → c + 1 < scratch_width → past_at scratch c j ≡ get_or (cells row) (c + 1) 0
  past-at c l =
      let k : j * scratch_width + c + 1 ≡ j * scratch_width + (c + 1) = omega arith in ap (λ (i : ℕ). get_or scratch i 0) k ∙ cell_at (c + 1) l
