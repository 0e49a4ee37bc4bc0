-- A row more: it is written after the others, which stay as they are, and both indexes take it up.
use mathlib.Core.Path.{◌≡◌, refl, sym, ap, ◌∙◌}
use mathlib.Core.List.{List, [], ◌∷◌, ◌++◌}
use Prim.Native.Nat.{ℕ, ◌+◌, ◌-◌, ◌*◌, ◌<◌, ◌≤◌}
use native.Mathlib.Omega.{arith}
use lib.ListN.{length, get_or, take, drop, length-append}
use lib.Seq.{slice, sets}
use Rattle.octets.specs.Walk.{stream_limit}
use Rattle.rows.specs.Rows.{scratch_width}
use Rattle.rows.specs.Columns.{identifier_column, logical_column, value_at, Bounded}
use Rattle.rows.specs.Index.{Filed, half_of, logical_index, BothFiled}
use Rattle.rows.proofs.RowsKept.{row-value, row-bounded}
use Rattle.rows.proofs.FiledKept.{row-filed}
use Rattle.rows.proofs.Halves.{second-half, first-back-size, first-back-first, first-back-second, second-back-first, second-back-second}
use Rattle.elements.specs.declared.Row.{Row}
use Rattle.elements.specs.Judge.{Element}
use Rattle.elements.specs.ElementRows.{cells}
use Rattle.elements.specs.Says.{Says, RowPlaced}
use Rattle.letters.specs.Numbers.{Narrow}
use Rattle.judging.specs.Done.{more, DoneRows}
use Rattle.judging.proofs.Rows.{written-more, saying-length}

-- the numbers of a row of a stream are small
pub narrow : (s : List ℕ) (row : Row) → length s ≤ stream_limit → RowPlaced s row → Narrow row
narrow s row short placed =
    let whole = placed.whole in
    let identifier = placed.identifier in
    let logical = placed.logical in
    let portions = placed.portions in
    let content = placed.content in (
      omega (arith, placed.kind),
      (
        omega (arith, placed.object),
        (
          omega arith,
          (omega arith, (omega arith, (omega arith, (omega arith, (omega arith, (omega arith, (omega arith, (omega arith, (omega arith, tt))))))))),
        ),
      ),
    )

-- row n is written, and the rows before it are indexed
pub record Written (s scratch index : List ℕ) (column n : ℕ) (bytes : List ℕ) : Type 0 where
  pub bounded : Bounded s scratch column (n + 1)
  pub filed : Filed s scratch column index n
  pub value : value_at s scratch column n ≡ bytes

module _ {s scratch scratch' : List ℕ} {n : ℕ} {row : Row} {table : List Row} {done : List Element} (holds : DoneRows s scratch n table done)
    (long : n * scratch_width + scratch_width ≤ length scratch) (placed : RowPlaced s row) (stored : scratch' ≡ sets scratch (n * scratch_width) (cells row)) where
  module _ (column : ℕ) (in_row : column + 1 < scratch_width) (order : get_or (cells row) column 0 ≤ get_or (cells row) (column + 1) 0)
      (inside : get_or (cells row) (column + 1) 0 ≤ length s) where
    bounded_at : Bounded s scratch column n → Bounded s scratch' column (n + 1)
    bounded_at b = rw stored (row-bounded s scratch n (cells row) refl long column in_row b order inside)

    written_at : (index : List ℕ) → Bounded s scratch column n → Filed s scratch column index n
        → Written s scratch' index column n (slice (get_or (cells row) column 0) (get_or (cells row) (column + 1) 0) s)
    written_at index b x = record {
      bounded = bounded_at b;
      filed = rw stored (row-filed s scratch n (cells row) refl long column in_row index x);
      value = rw stored (row-value s scratch n (cells row) refl long column in_row);
    }

  pub identifier-written : (index : List ℕ) → Filed s scratch identifier_column index n
      → Written s scratch' index identifier_column n (slice row.identifier.first row.identifier.past s)
  identifier-written index = written_at identifier_column (omega arith) placed.identifier.order placed.identifier.inside index holds.identifiers

  pub logical-written : (index : List ℕ) → Filed s scratch logical_column index n
      → Written s scratch' index logical_column n (slice row.logical.first row.logical.past s)
  logical-written index = written_at logical_column (omega arith) placed.logical.order placed.logical.inside index holds.logicals

  pub holds_more : (e : Element) → Says s row e → DoneRows s scratch' (n + 1) (table ++ row ∷ []) (done ++ e ∷ [])
  holds_more e says =
      let size : length table ≡ n = saying-length holds.saying ∙ holds.counted in record {
        counted = length-append done (e ∷ []) ∙ ap (λ (k : ℕ). k + 1) holds.counted;
        written = rw stored (written-more scratch n table row holds.written size long);
        saying = more holds.saying says;
        identifiers = bounded_at identifier_column (omega arith) placed.identifier.order placed.identifier.inside holds.identifiers;
        logicals = bounded_at logical_column (omega arith) placed.logical.order placed.logical.inside holds.logicals;
      }

-- both indexes with a row more, the one given back after the other
module _ {half : ℕ} (index : List ℕ) (is : half ≡ half_of (length index)) (first : List ℕ)
    (size : length first ≡ length (take half index)) where
  pub still : half ≡ half_of (length (first ++ drop half index))
  still = is ∙ sym (ap half_of (first-back-size index is first size))

  -- the second is as it was
  pub second-left : let index' = first ++ drop half index in take (length index' - half) (drop half index') ≡ logical_index index
  second-left = second-half (first ++ drop half index) still ∙ first-back-second index is first size

  pub both-filed : {s scratch : List ℕ} {n : ℕ} (second : List ℕ) → let index' = first ++ drop half index in length second ≡ length (take (length index' - half) (drop half index'))
      → Filed s scratch identifier_column first n → Filed s scratch logical_column second n
      → BothFiled s scratch (take half index' ++ (second ++ drop (length index' - half) (drop half index'))) n
  both-filed second long by-identifier by-logical = record {
    identifiers = rw (second-back-first (first ++ drop half index) still second long, first-back-first index is first size) by-identifier;
    logicals = rw (second-back-second (first ++ drop half index) still second long) by-logical;
  }
