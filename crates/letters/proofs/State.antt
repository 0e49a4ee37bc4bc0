-- Where the judge stands between two elements: what is done is in the scratch, and the rest of the stream decides as the whole does.
use mathlib.Core.Path.{◌≡◌, refl, ap, sym, ◌∙◌}
use mathlib.Core.Bool.{false}
use mathlib.Core.List.{List, [], ◌∷◌, ◌++◌, append_assoc, append-nil}
use Prim.Native.Nat.{ℕ, suc, ◌+◌, ◌<◌}
use native.Mathlib.Omega.{arith}
use borrow.Author.Tests.{eqb-true, eqb-false}
use borrow.Table.Steps.{cases}
use lib.Dec.{eqb}
use lib.ListN.{length}
use Rattle.octets.specs.Walk.{Items, no_items, item, start_of}
use Rattle.tree.specs.Tree.{plain, tree_of}
use Rattle.runs.specs.declared.Run.{Run}
use Rattle.runs.specs.Runs.{items_of, tree_in, whole_stream, tops, Fine, Meeting}
use Rattle.runs.proofs.Laws.{start-at, no-tops}
use Rattle.rows.specs.Columns.{identifier_column, logical_column}
use Rattle.rows.specs.Index.{identifier_index, logical_index, BothFiled}
use Rattle.rows.proofs.RowsKept.{bounded-none}
use Rattle.rows.proofs.FiledKept.{filed-none}
use Rattle.elements.specs.declared.Row.{Row}
use Rattle.elements.specs.declared.Edition.{Edition}
use Rattle.elements.specs.Judge.{Element, most_elements, judge_from, judge}
use Rattle.elements.specs.ElementRows.{rows_of, numbers, place_of}
use Rattle.judging.specs.declared.Hashes.{Hashes}
use Rattle.judging.specs.declared.PlacedItem.{PlacedItem}
use Rattle.std.specs.Prelude.{Err}
use Rattle.letters.specs.Letter.{items_of_stream, rows_in}
use Rattle.judging.specs.Done.{none, DoneRows}
use Rattle.letters.specs.Scratch.{LetterRows, Stopped, GivesVerdict}
use Rattle.letters.specs.Lent.{rows_needed, Lent, end_verdict}
use Rattle.judging.specs.Judges.{element_by, Passing, Judges}
use Rattle.letters.proofs.Meetings.{nothing-inside}
use Rattle.judging.proofs.Steps.{unrefused-few, judged-refused, judged-passed, judge-some}

pub record Judging (edition : Edition) (s scratch index : List ℕ) (n : ℕ) (cur : Run) : Type 0 where
  pub fine : Fine s cur
  pub unmarked : cur.marked ≡ false
  pub to_end : cur.limit ≡ length s
  pub table : List Row
  pub done : List Element
  pub holds : DoneRows s scratch n table done
  pub filed : BothFiled s scratch index n
  pub judged : judge_from edition [] (tree_of s) ≡ judge_from edition done (tree_in s cur)
  pub tabled : rows_in edition s ≡ table ++ rows_of edition s (items_of s cur)
  pub counted : tops (items_of_stream s) ≡ n + tops (items_of s cur)
  pub placed : (k : ℕ) → place_of (n + k) (items_of_stream s) ≡ place_of k (items_of s cur)

-- nothing is done
pub judging-none : (edition : Edition) (s scratch index bounds : List ℕ) → Lent s scratch index bounds → Fine s (whole_stream s)
    → Judging edition s scratch index 0 (whole_stream s)
unfolding numbers
judging-none edition s scratch index bounds lent fine = record {
  fine = fine;
  unmarked = refl;
  to_end = refl;
  table = [];
  done = [];
  holds = record {
    counted = refl;
    written = refl;
    saying = none;
    identifiers = bounded-none s scratch identifier_column (omega arith);
    logicals = bounded-none s scratch logical_column (omega arith);
  };
  filed = record {
    identifiers = filed-none s scratch identifier_column (identifier_index index) lent.identifiers (omega (arith, lent.links.identifiers));
    logicals = filed-none s scratch logical_column (logical_index index) lent.logicals (omega (arith, lent.links.logicals));
  };
  judged = refl;
  tabled = refl;
  counted = omega arith;
  placed = λ k. let e : 0 + k ≡ k = omega arith in ap (λ (i : ℕ). place_of i (items_of_stream s)) e;
}

module _ {edition : Edition} {s scratch index : List ℕ} {n : ℕ} {cur : Run} (j : Judging edition s scratch index n cur) where
  -- no element is left
  module _ (end : items_of s cur ≡ no_items) where
    whole-count : tops (items_of_stream s) ≡ n
    whole-count = omega (arith, j.counted, ap tops end)

    end_empty : n ≡ 0 → Stopped edition s 11 0
    unfolding judge place_of
    end_empty e =
        let empty-stream : items_of_stream s ≡ no_items = no-tops (items_of_stream s) (whole-count ∙ e) in
        record { element = 0; judged = ap (λ (i : Items). judge edition (plain s i)) empty-stream; placed = sym (ap (place_of 0) empty-stream) }

    end-filled : (n ≡ 0 → ⊥) → LetterRows edition s scratch n
    unfolding judge_from rows_of
    end-filled some =
        let all-rows : rows_in edition s ≡ j.table = j.tabled ∙ ap (λ (i : Items). j.table ++ rows_of edition s i) end ∙ append-nil j.table in
        record {
          elements = j.done;
          judged = judge-some edition s (items_of_stream s) (omega (arith, whole-count, some)) ∙ j.judged
              ∙ ap (λ (i : Items). judge_from edition j.done (plain s i)) end;
          holds = rw all-rows j.holds;
        }

    pub end-gives : GivesVerdict edition s scratch index (end_verdict n)
    end-gives = cases (eqb n 0) (λ t. rw t (end_empty (eqb-true n 0 t))) (λ t. rw t (end-filled (eqb-false n 0 t), j.filed))

  -- an element is met
  module _ {code first past : ℕ} {inner rest : Run} (m : Meeting s cur code first past inner rest) where
    abbrev here : PlacedItem
    here = record { code = code; first = cur.at; past = rest.at; inner = inner }

    some_left : 0 < tops (items_of_stream s)
    some_left = omega (arith, j.counted, ap tops m.tree)

    met-judged : judge edition (tree_of s) ≡ judge_from edition j.done (tree_in s cur)
    met-judged = judge-some edition s (items_of_stream s) some_left ∙ j.judged

    met-tree : judge_from edition j.done (tree_in s cur)
        ≡ judge_from edition j.done (plain s (item cur.at code first past (items_of s inner) (items_of s rest)))
    met-tree = ap (λ (i : Items). judge_from edition j.done (plain s i)) m.tree

    -- and refused: element n stands there
    pub refused-at : (number : ℕ) → Judges edition s j.done here (Err number) → Stopped edition s number cur.at
    unfolding place_of
    refused-at number w =
        let this : n + 0 ≡ length j.done = omega (arith, j.holds.counted) in
        record {
          element = length j.done;
          judged = met-judged ∙ met-tree
              ∙ judged-refused edition s j.done cur.at code first past (items_of s inner) (items_of s rest) (nothing-inside j.fine m) number
              w.0 w.1;
          placed = sym (ap (λ (i : ℕ). place_of i (items_of_stream s)) (sym this) ∙ j.placed 0 ∙ ap (place_of 0) m.tree);
        }

    -- and passed: there is room for its row
    module _ {row : Row} {hashes : Hashes} (w : Passing edition s j.done here row hashes) where
      pub few : n < most_elements
      few = omega (arith, unrefused-few edition j.done code (tree_in s inner) w.unrefused, j.holds.counted)

      pub needed : n < rows_needed s
      needed = omega (arith, few, j.counted, ap tops m.tree)

      ends_there : start_of (length s) (items_of s rest) ≡ rest.at
      ends_there =
          ap (λ (end : ℕ). start_of end (items_of s rest)) (sym (m.rest_limit ∙ j.to_end)) ∙ start-at m.rest_fine (m.rest_marked ∙ j.unmarked)

      rows-here : rows_of edition s (items_of s cur) ≡ row ∷ rows_of edition s (items_of s rest)
      unfolding rows_of
      rows-here = ap (rows_of edition s) m.tree ∙ rw (ends_there, ← w.row_is)

      pub judging-more : {scratch' index' : List ℕ}
          → DoneRows s scratch' (n + 1) (j.table ++ row ∷ []) (j.done ++ element_by edition code (tree_in s inner) ∷ [])
          → BothFiled s scratch' index' (n + 1) → Judging edition s scratch' index' (n + 1) rest
      unfolding place_of
      judging-more holds filed = record {
        fine = m.rest_fine;
        unmarked = m.rest_marked ∙ j.unmarked;
        to_end = m.rest_limit ∙ j.to_end;
        table = j.table ++ row ∷ [];
        done = j.done ++ element_by edition code (tree_in s inner) ∷ [];
        holds = holds;
        filed = filed;
        judged = j.judged ∙ met-tree
            ∙ judged-passed edition s j.done cur.at code first past (items_of s inner) (items_of s rest) (nothing-inside j.fine m) w.unrefused;
        tabled = j.tabled ∙ ap (λ (l : List Row). j.table ++ l) rows-here ∙ sym (append_assoc j.table (row ∷ []) (rows_of edition s (items_of s rest)));
        counted = omega (arith, j.counted, ap tops m.tree);
        placed = λ k.
            let e : n + 1 + k ≡ n + suc k = omega arith in
            ap (λ (i : ℕ). place_of i (items_of_stream s)) e ∙ j.placed (suc k) ∙ ap (place_of (suc k)) m.tree;
      }
