-- The lent table while it is filled, row by row: what is put, and then the rows that are left, is all. A finished table tells the parents of its rows,
-- so the rows that have one as their parent are its children.
use mathlib.Core.Path.{◌≡◌, refl, ap, sym, ◌∙◌}
use mathlib.Core.List.{List, [], ◌∷◌, ◌++◌, append_assoc}
use mathlib.Core.Option.{Option, none, some}
use Prim.Native.Nat.{ℕ, zero, suc, ◌+◌, ◌-◌, ◌*◌, ◌<◌, ◌≤◌}
use native.Mathlib.Omega.{arith}
use native.Mathlib.Numerals.{add-one}
use lib.Dec.{eqb}
use lib.ListN.{length, get_or, set, length-set, take, drop, get_elem?, length-append, drop_of_length-le, get_or-append}
use lib.Seq.{sets, sets-eq, paste, slice, take-take, take_at, take-length, take-append-add, drop-append-add, get_or-append-add}
use borrow.Author.Tests.{eq-eqb, ne_eqb}
use Rattle.laws.proofs.Writes.{sets-append}
use Rattle.rows.specs.Rows.{scratch_width}
use Rattle.elements.specs.declared.Edition.{Edition}
use Rattle.elements.specs.declared.Row.{Row}
use Rattle.elements.specs.Judge.{Element}
use Rattle.elements.specs.ElementRows.{cells, numbers}
use Rattle.letters.specs.Letter.{letter, letter_in, rows_in}
use Rattle.letters.specs.Scratch.{LetterRows}
use Rattle.judging.proofs.Lists.{at-below}
use Rattle.judging.proofs.Rows.{saying-length}
use Rattle.reading.specs.Match.{for_each, only}
use Rattle.parents.specs.Parent.{parent, no_parent, row_or_none, is_row, children}
use Rattle.answers.specs.Table.{table_width, row_numbers, table_numbers, parent_at}
use Rattle.answers.specs.Filling.{PutsRow, Fills, rows_with}
use Rattle.answers.specs.Answers.{elements_in, onto, table_of}

-- the numbers of row j, among those of all rows
numbers-slice : (rows : List Row) (j : ℕ) (row : Row) → get_elem? rows j ≡ some row
    → slice (j * scratch_width) (j * scratch_width + scratch_width) (numbers rows) ≡ cells row
unfolding numbers
numbers-slice [] j row e = let z : ◌≡◌ {A = ℕ} 0 1 = cc in absurd (omega arith)
numbers-slice (r ∷ rows) zero row e = let q : r ≡ row = cc in take_at (cells r) (numbers rows) scratch_width refl ∙ ap cells q
numbers-slice (r ∷ rows) (suc j) row e =
    let first : suc j * scratch_width ≡ scratch_width + j * scratch_width = omega arith in
    let past : suc j * scratch_width + scratch_width ≡ scratch_width + (j * scratch_width + scratch_width) = omega arith in
    ap (λ (k : ℕ). drop k (take (suc j * scratch_width + scratch_width) (cells r ++ numbers rows))) first
    ∙ ap (λ (k : ℕ). drop (scratch_width + j * scratch_width) (take k (cells r ++ numbers rows))) past
    ∙ ap (drop (scratch_width + j * scratch_width)) (take-append-add (cells r) (numbers rows) (j * scratch_width + scratch_width))
    ∙ drop-append-add (cells r) (take (j * scratch_width + scratch_width) (numbers rows)) (j * scratch_width)
    ∙ numbers-slice rows j row e

-- and in the scratch
pub scratch-slice : {edition : Edition} {s scratch : List ℕ} {count : ℕ} → LetterRows edition s scratch count → (j : ℕ) (row : Row) → j < count
    → get_elem? (rows_in edition s) j ≡ some row → slice (j * scratch_width) (j * scratch_width + scratch_width) scratch ≡ cells row
scratch-slice {edition} {s} {scratch} {count} held j row below there =
    ap (drop (j * scratch_width)) (sym (take-take (j * scratch_width + scratch_width) (count * scratch_width) scratch (omega arith)))
    ∙ ap (slice (j * scratch_width) (j * scratch_width + scratch_width)) held.holds.written ∙ numbers-slice (rows_in edition s) j row there

-- the numbers of a row are copied, and the parent's put behind them
pub put-behind : (table : List ℕ) (at : ℕ) (own : List ℕ) (last : ℕ) → length own ≡ scratch_width → at + scratch_width ≤ length table
    → set (paste table at own scratch_width) (at + scratch_width) last ≡ sets table at (own ++ last ∷ [])
put-behind table at own last size room =
    let all : take scratch_width own ≡ own = ap (λ (k : ℕ). take k own) (sym size) ∙ take-length own in
    let copied : paste table at own scratch_width ≡ sets table at own =
    ap (λ (l : List ℕ). take at table ++ l ++ drop (at + scratch_width) table) all
    ∙ ap (λ (k : ℕ). take at table ++ own ++ drop (at + k) table) (sym size)
    ∙ sym (sets-eq own table at (omega arith)) in
    ap (λ (l : List ℕ). set l (at + scratch_width) last) copied ∙ ap (λ (k : ℕ). set (sets table at own) (at + k) last) (sym size)
    ∙ sym (sets-append table at own (last ∷ []))

-- what is left from row j on
drop-there : {A : Type 0} (xs : List A) (j : ℕ) (x : A) → get_elem? xs j ≡ some x → drop j xs ≡ x ∷ drop (suc j) xs
drop-there [] j x e = let z : ◌≡◌ {A = ℕ} 0 1 = cc in absurd (omega arith)
drop-there (y ∷ xs) zero x e = let q : y ≡ x = cc in rw q
drop-there (y ∷ xs) (suc j) x e = drop-there xs j x e

-- so many numbers
pub table-length : (elements : List Element) (n : ℕ) (rows : List Row) → length (for_each n rows (row_numbers elements)) ≡ length rows * table_width
unfolding for_each
table-length elements n [] = refl
table-length elements n (row ∷ rows) =
    let l = table-length elements (suc n) rows in
    length-append (row_numbers elements n row) (for_each (suc n) rows (row_numbers elements)) ∙ omega arith

pub record Filling (s scratch : List ℕ) (count : ℕ) (table₀ table : List ℕ) (j : ℕ) : Type 0 where
  pub within : j ≤ count
  pub kept : length table ≡ length table₀
  pub goes_on : (edition : Edition) (held : LetterRows edition s scratch count)
      → sets table₀ 0 (table_numbers held.elements (rows_in edition s)) ≡ sets table (j * table_width)
      (for_each j (drop j (rows_in edition s)) (row_numbers held.elements))

-- there is a row for each element
rows_counted : {edition : Edition} {s scratch : List ℕ} {count : ℕ} → LetterRows edition s scratch count → length (rows_in edition s) ≡ count
rows_counted held = saying-length held.holds.saying ∙ held.holds.counted

-- at the start all rows are left
pub filling-all : (s scratch : List ℕ) (count : ℕ) (table : List ℕ) → Filling s scratch count table table 0
filling-all s scratch count table = record { within = omega arith; kept = refl; goes_on = λ edition held. refl }

module _ {s scratch : List ℕ} {count : ℕ} {table₀ table : List ℕ} {j : ℕ} (filling : Filling s scratch count table₀ table j) where
  -- one row is put
  pub filling-more : {table' : List ℕ} → j < count → PutsRow s scratch count j table table' → length table' ≡ length table
      → Filling s scratch count table₀ table' (j + 1)
  unfolding for_each
  filling-more {table'} below puts same = record {
    within = omega arith;
    kept = same ∙ filling.kept;
    goes_on = λ edition held.
        let rows = rows_in edition s in
        let f = row_numbers held.elements in
        let (row, there) = at-below rows j (omega (arith, rows_counted held)) in
        let rest = for_each (j + 1) (drop (j + 1) rows) f in
        let split : for_each j (drop j rows) f ≡ f j row ++ rest = ap (λ (l : List Row). for_each j l f) (drop-there rows j row there) ∙ rw (add-one j) in
        let at : j * table_width + length (f j row) ≡ (j + 1) * table_width = omega arith in
        filling.goes_on edition held ∙ ap (sets table (j * table_width)) split ∙ sets-append table (j * table_width) (f j row) rest
        ∙ ap (λ (l : List ℕ). sets l (j * table_width + length (f j row)) rest) (sym (puts edition held row there))
        ∙ ap (λ (k : ℕ). sets table' k rest) at;
  }

  -- all are
  pub filling-none : count ≤ j → count * table_width ≤ length table₀ → Fills s scratch count table₀ table
  unfolding for_each
  filling-none done room edition held =
      let elements = held.elements in
      let rows = rows_in edition s in
      let f = row_numbers elements in
      let none : drop j rows ≡ [] = drop_of_length-le rows {i = j} (omega (arith, rows_counted held)) in
      let size : length (table_numbers elements rows) ≡ count * table_width = table-length elements 0 rows ∙ ap (λ (k : ℕ). k * table_width) (rows_counted held) in
      let whole : 0 + length (table_numbers elements rows) ≡ count * table_width = omega arith in
      sym (filling.goes_on edition held ∙ ap (λ (l : List Row). sets table (j * table_width) (for_each j l f)) none)
      ∙ sets-eq (table_numbers elements rows) table₀ 0 (omega arith) ∙ ap (λ (k : ℕ). table_numbers elements rows ++ drop k table₀) whole

-- the table that is filled by the rows of a letter is the finished one
module _ {edition : Edition} {s rows : List ℕ} {count : ℕ} (held : LetterRows edition s rows count) where
  pub table_filled : {headers : ℕ} → letter_in edition s ≡ letter headers held.elements →
      (table after : List ℕ) → Fills s rows count table after → after ≡ table_of edition s table
  table_filled e table after fills =
      let size : length (table_numbers held.elements (rows_in edition s)) ≡ count * table_width =
      table-length held.elements 0 (rows_in edition s) ∙ ap (λ (k : ℕ). k * table_width) (rows_counted held) in
      fills edition held ∙ rw (e, size)

-- "the last being the parent's row"
parent_there : (elements : List Element) (n : ℕ) (rows : List Row) (rest : List ℕ) (j : ℕ) → j < length rows
    → parent_at (for_each n rows (row_numbers elements) ++ rest) j ≡ row_or_none (parent elements (n + j))
unfolding for_each
parent_there elements n [] rest j l = absurd (omega arith)
parent_there elements n (row ∷ rows) rest zero l = let e : n + 0 ≡ n = omega arith in ap (λ (k : ℕ). row_or_none (parent elements k)) (sym e)
parent_there elements n (row ∷ rows) rest (suc j) l =
    let own = row_numbers elements n row in
    let others = for_each (suc n) rows (row_numbers elements) in
    let at : suc j * table_width + 12 ≡ 13 + (j * table_width + 12) = omega arith in
    let e : n + suc j ≡ suc n + j = omega arith in
    ap (λ (l : List ℕ). get_or l (suc j * table_width + 12) 0) (append_assoc own others rest)
    ∙ ap (λ (k : ℕ). get_or (own ++ (others ++ rest)) k 0) at ∙ get_or-append-add own (others ++ rest) (j * table_width + 12) 0
    ∙ parent_there elements (suc n) rows rest j (omega arith) ∙ ap (λ (k : ℕ). row_or_none (parent elements k)) (sym e)

-- in the finished table of a letter
pub table-tells : (edition : Edition) (s : List ℕ) {headers : ℕ} {elements : List Element} → letter_in edition s ≡ letter headers elements
    → length (rows_in edition s) ≡ length elements → (table : List ℕ) (j : ℕ) → j < length elements → parent_at (table_of edition s table) j ≡ row_or_none
    (parent elements j)
table-tells edition s {headers} {elements} e counted table j l =
    let z : 0 + j ≡ j = omega arith in
    let own : elements_in edition s ≡ elements = rw e in
    ap (λ (es : List Element). parent_at (onto (table_numbers es (rows_in edition s)) table) j) own
    ∙ parent_there elements 0 (rows_in edition s) (drop (length (table_numbers elements (rows_in edition s))) table) j (omega arith)
    ∙ ap (λ (k : ℕ). row_or_none (parent elements k)) z

-- and the numbers of the scratch's row before it
pub cell-there : (elements : List Element) (n : ℕ) (rows : List Row) (rest : List ℕ) (j : ℕ) (row : Row) → get_elem? rows j ≡ some row → (c : ℕ)
    → c < scratch_width
    → get_or (for_each n rows (row_numbers elements) ++ rest) (j * table_width + c) 0 ≡ get_or (cells row) c 0
unfolding for_each
cell-there elements n [] rest j row e c l = let z : ◌≡◌ {A = ℕ} 0 1 = cc in absurd (omega arith)
cell-there elements n (r ∷ rows) rest zero row e c l =
    let q : r ≡ row = cc in
    let at : 0 * table_width + c ≡ c = omega arith in
    let more = (row_or_none (parent elements n) ∷ for_each (suc n) rows (row_numbers elements)) ++ rest in
    ap (λ (k : ℕ). get_or (cells r ++ more) k 0) at ∙ get_or-append (cells r) more 0 c l ∙ ap (λ (x : Row). get_or (cells x) c 0) q
cell-there elements n (r ∷ rows) rest (suc j) row e c l =
    let own = row_numbers elements n r in
    let others = for_each (suc n) rows (row_numbers elements) in
    let at : suc j * table_width + c ≡ 13 + (j * table_width + c) = omega arith in
    ap (λ (x : List ℕ). get_or x (suc j * table_width + c) 0) (append_assoc own others rest)
    ∙ ap (λ (k : ℕ). get_or (own ++ (others ++ rest)) k 0) at ∙ get_or-append-add own (others ++ rest) (j * table_width + c) 0
    ∙ cell-there elements (suc n) rows rest j row e c l

-- no row has the number of none
is_number : (o : Option ℕ) (row : ℕ) → row < no_parent → eqb (row_or_none o) row ≡ is_row o row
is_number none row l = ne_eqb no_parent row (λ e. omega arith)
is_number (some p) row l = refl

-- the rows that have a parent are its children
module _ (elements : List Element) (table : List ℕ) (count row : ℕ) (low : row < no_parent)
    (tells : (j : ℕ) → j < count → parent_at table j ≡ row_or_none (parent elements j)) where
  from_row : (n : ℕ) (xs : List Element) → n + length xs ≤ count
      → rows_with table row n (length xs) ≡ for_each n xs (λ j element. only (is_row (parent elements j) row) j)
  unfolding rows_with for_each
  from_row n [] l = refl
  from_row n (x ∷ xs) l =
      let t : eqb (parent_at table n) row ≡ is_row (parent elements n) row =
      ap (λ (k : ℕ). eqb k row) (tells n (omega arith)) ∙ is_number (parent elements n) row low in
      let rest = from_row (suc n) xs (omega arith) in
      rw (t, rest)

  pub rows-children : length elements ≡ count → rows_with table row 0 count ≡ children elements row
  unfolding children
  rows-children counted = ap (rows_with table row 0) (sym counted) ∙ from_row 0 elements (omega arith)

-- the children of a row, by the table that was filled
pub finished-children : {edition : Edition} {s scratch : List ℕ} {count : ℕ} (held : LetterRows edition s scratch count) (table after : List ℕ)
    → Fills s scratch count table after → (row : ℕ) → row < no_parent → rows_with after row 0 count ≡ children held.elements row
finished-children {edition} {s} {scratch} {count} held table after fills row low =
    let elements = held.elements in
    let rows = rows_in edition s in
    rows-children elements after count row low
    (λ j l.
    let z : 0 + j ≡ j = omega arith in
    ap (λ (x : List ℕ). parent_at x j) (fills edition held) ∙ parent_there elements 0 rows (drop (count * table_width) table) j (omega (arith, rows_counted held))
    ∙ ap (λ (k : ℕ). row_or_none (parent elements k)) z)
    held.holds.counted

-- one row more is looked at
pub rows_step : (table : List ℕ) (row j count : ℕ) → j < count
    → rows_with table row j (count - j) ≡ only (eqb (parent_at table j) row) j ++ rows_with table row (j + 1) (count - (j + 1))
unfolding rows_with
rows_step table row j count l =
    let e : count - j ≡ suc (count - (j + 1)) = omega arith in
    ap (rows_with table row j) e ∙ ap (λ (k : ℕ). only (eqb (parent_at table j) row) j ++ rows_with table row k (count - (j + 1))) (sym (add-one j))

-- none is left
pub rows-done : (table : List ℕ) (row j count : ℕ) → count ≤ j → rows_with table row j (count - j) ≡ []
unfolding rows_with
rows-done table row j count l = let e : count - j ≡ 0 = omega arith in ap (rows_with table row j) e

-- by what it has there
module _ (table : List ℕ) (row j count : ℕ) (below : j < count) where
  pub rows-hit : parent_at table j ≡ row → rows_with table row j (count - j) ≡ j ∷ rows_with table row (j + 1) (count - (j + 1))
  rows-hit e = rows_step table row j count below ∙ rw (eq-eqb (parent_at table j) row e)

  pub rows-miss : (parent_at table j ≡ row → ⊥) → rows_with table row j (count - j) ≡ rows_with table row (j + 1) (count - (j + 1))
  rows-miss n = rows_step table row j count below ∙ rw (ne_eqb (parent_at table j) row n)

-- while the rows are put to the list
pub record Putting (table : List ℕ) (count row : ℕ) (list₀ list : List ℕ) (j found : ℕ) : Type 0 where
  pub within : j ≤ count
  pub few : found ≤ j
  pub kept : length list ≡ length list₀
  pub room : found + length (rows_with table row j (count - j)) ≤ length list
  pub goes_on : sets list₀ 0 (rows_with table row 0 count) ≡ sets list found (rows_with table row j (count - j))

pub putting-all : (table : List ℕ) (count row : ℕ) (list : List ℕ) → length (rows_with table row 0 count) ≤ length list → Putting table count row list list 0 0
putting-all table count row list enough =
    let e : count - 0 ≡ count = omega arith in
    let l : length (rows_with table row 0 (count - 0)) ≡ length (rows_with table row 0 count) = ap (λ (k : ℕ). length (rows_with table row 0 k)) e in
    record {
      within = omega arith;
      few = omega arith;
      kept = refl;
      room = omega arith;
      goes_on = ap (λ (k : ℕ). sets list 0 (rows_with table row 0 k)) (sym e);
    }

module _ {table : List ℕ} {count row : ℕ} {list₀ list : List ℕ} {j found : ℕ} (putting : Putting table count row list₀ list j found) where
  module _ (below : j < count) where
    -- there is room for a child,
    pub putting-room : parent_at table j ≡ row → found < length list
    putting-room e =
        let l : length (rows_with table row j (count - j)) ≡ suc (length (rows_with table row (j + 1) (count - (j + 1)))) = ap length
        (rows-hit table row j count below e) in
        omega (arith, putting.room)

    -- which is put,
    pub putting-hit : parent_at table j ≡ row → Putting table count row list₀ (set list found j) (j + 1) (found + 1)
    putting-hit e =
        let rest = rows_with table row (j + 1) (count - (j + 1)) in
        let l : length (rows_with table row j (count - j)) ≡ suc (length rest) = ap length (rows-hit table row j count below e) in
        let same = length-set list found j in
        record {
          within = omega arith;
          few = omega (arith, putting.few);
          kept = same ∙ putting.kept;
          room = omega (arith, putting.room);
          goes_on = putting.goes_on ∙ ap (sets list found) (rows-hit table row j count below e)
              ∙ ap (λ (k : ℕ). sets (set list found j) k rest) (sym (add-one found));
        }

    -- or another row is passed
    pub putting-miss : (parent_at table j ≡ row → ⊥) → Putting table count row list₀ list (j + 1) found
    putting-miss n =
        let rest = rows-miss table row j count below n in
        let l = ap length rest in
        record {
          within = omega arith;
          few = omega (arith, putting.few);
          kept = putting.kept;
          room = omega (arith, putting.room);
          goes_on = putting.goes_on ∙ ap (sets list found) rest;
        }

  -- all are put
  pub putting-none : count ≤ j → length (rows_with table row 0 count) ≤ length list₀
      → list ≡ rows_with table row 0 count ++ drop (length (rows_with table row 0 count)) list₀
  putting-none done enough =
      let all = rows_with table row 0 count in
      let z : 0 + length all ≡ length all = omega arith in
      sym (putting.goes_on ∙ ap (sets list found) (rows-done table row j count done)) ∙ sets-eq all list₀ 0 (omega arith)
      ∙ ap (λ (k : ℕ). all ++ drop k list₀) z
