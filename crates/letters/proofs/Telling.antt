-- The rows of a letter tell of its elements; they are few, and each is one of the table.
use mathlib.Core.Path.{◌≡◌, ap, sym, ◌∙◌, subst}
use mathlib.Core.Option.{some}
use mathlib.Core.List.{List}
use Prim.Native.Nat.{ℕ, ◌+◌, ◌*◌, ◌<◌, ◌≤◌}
use native.Mathlib.Omega.{arith}
use lib.ListN.{length, get_or, get_elem?}
use borrow.Author.Tests.{lt-ltb}
use Rattle.runs.specs.declared.Run.{Run}
use Rattle.runs.specs.Runs.{tree_in, Fine}
use Rattle.contents.specs.declared.Span.{Span}
use Rattle.contents.specs.Search.{Value, absent, octets}
use Rattle.portions.specs.Portions.{all_portions, values}
use Rattle.rows.specs.Rows.{scratch_width}
use Rattle.rows.specs.Columns.{identifier_column, logical_column, portions_column, span_at, portions_run, portions_at}
use Rattle.elements.specs.declared.Edition.{Edition}
use Rattle.elements.specs.declared.Row.{Row}
use Rattle.elements.specs.Judge.{Element, most_elements}
use Rattle.elements.specs.ElementRows.{cells}
use Rattle.elements.specs.Says.{Names}
use Rattle.judging.proofs.Rows.{RowOf, kind-at, first-at, past-at}
use Rattle.letters.specs.Letter.{rows_in}
use Rattle.letters.specs.Scratch.{LetterRows}
use Rattle.letters.specs.Telling.{name_in, Tells, RowsTell}
use Rattle.letters.proofs.Table.{letter-apart, letter-row}

-- an identifier is what its pair bounds
name_of : (s : List ℕ) (pair : Span) (name : Value) → Names s pair name → name ≡ name_in s pair
name_of s pair absent e = rw e
name_of s pair (octets bytes) (covers, longer) = rw (lt-ltb pair.first pair.past longer) (ap octets (sym covers.value))

module _ {edition : Edition} {s rows : List ℕ} {n : ℕ} (letter : LetterRows edition s rows n) where
  module _ (j : ℕ) (element : Element) (there : get_elem? letter.elements j ≡ some element) where
    abbrev own : RowOf s (rows_in edition s) j element
    own = letter-row letter j element there

    abbrev row : Row
    row = own.row

    pair-at : (column : ℕ) → column + 1 < scratch_width → span_at rows column j ≡ record {
      first = get_or (cells row) column 0;
      past = get_or (cells row) (column + 1) 0;
    }
    pair-at column l = rw (first-at letter.holds j row own.stands column (omega arith), past-at letter.holds j row own.stands column l)

    run-at : portions_at rows j ≡ portions_run row.portions
    run-at = ap portions_run (pair-at portions_column (omega arith))

    row-tells : Tells s rows j element
    row-tells =
        let says = own.says in
        record {
          kind = kind-at letter.holds j row own.stands ∙ says.kind;
          identifier = name_of s row.identifier element.identifier says.identifier ∙ ap (name_in s) (sym (pair-at identifier_column (omega arith)));
          logical = name_of s row.logical element.logical says.logical ∙ ap (name_in s) (sym (pair-at logical_column (omega arith)));
          portions_fine = subst (Fine s) (sym run-at) says.portions_fine;
          only_portions = ap (λ (r : Run). all_portions (tree_in s r)) run-at ∙ says.only_portions;
          portions = ap (λ (r : Run). values (tree_in s r)) run-at ∙ says.portions;
        }

  pub rows_tell : RowsTell s rows n letter.elements
  rows_tell = record { apart = letter-apart letter; counted = letter.holds.counted; tells = row-tells }

  pub few-rows : n ≤ most_elements
  few-rows = omega (arith, (letter-apart letter).few, letter.holds.counted)

  pub row_inside : (j : ℕ) → j < n → j * scratch_width + scratch_width ≤ length rows
  row_inside j l = omega (arith, letter.holds.identifiers.in_table)
