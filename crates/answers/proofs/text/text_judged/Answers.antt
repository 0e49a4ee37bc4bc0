-- `answers::text::text_judged` meets its contract: the list tells the matches, so that their texts can be measured; then the answer is known, and what was
-- lent is written as it says.
use mathlib.Core.Path.{refl, sym, ◌∙◌, subst}
use mathlib.Core.List.{List}
use Prim.Native.Nat.{ℕ}
use Rattle.rows.specs.Columns.{identifier_column}
use Rattle.rows.specs.Index.{Filed}
use native.Mathlib.Omega.{arith}
use lib.ListN.{length}
use Rattle.runs.proofs.Laws.{stream-fine}
use Rattle.answers.proofs.Judging.{accepted-judged}
use Rattle.answers.proofs.Listing.{finished-rows}
use Rattle.answers.proofs.TextSteps.{Ends, reading-ends, finished-list, listing, puts, answer_is, shows}
use Rattle.answers.proofs.text.text_judged.Goals as goal

pub find_matches-listed-requires : goal.find_matches-listed-requires
find_matches-listed-requires c = record {
  accepts = c.requires.accepts;
  letter_rows = c.requires.letter_rows;
  both_filed = c.requires.both_filed;
  stream_in_bounds = omega (arith, c.requires.stream_in_bounds);
}

pub measure-needed-requires : goal.measure-needed-requires
measure-needed-requires c =
    let x = c.args in
    let l = accepted-judged c.requires.accepts.ended c.requires.letter_rows in
    let few = listing x.edition x.side x.stream.now x.table.now x.room x.out.now refl c.find_matches-listed.ensures l
    (stream-fine x.stream.now _ _ c.requires.accepts.ended) (omega (
      arith,
      c.requires.stream_in_bounds,
      c.find_matches-listed.auto.flat,
    )) refl in
    record { accepts = c.requires.accepts; letter_rows = c.requires.letter_rows; listing = few }

pub answer-shown-requires : goal.answer-shown-requires
answer-shown-requires c =
    let x = c.args in
    let l = accepted-judged c.requires.accepts.ended c.requires.letter_rows in
    let few = listing x.edition x.side x.stream.now x.table.now x.room x.out.now refl c.find_matches-listed.ensures l
    (stream-fine x.stream.now _ _ c.requires.accepts.ended) (omega (
      arith,
      c.requires.stream_in_bounds,
      c.find_matches-listed.auto.flat,
    )) refl in
    omega (arith, c.measure-needed.ensures, few.short)

pub finish-requires : goal.finish-requires
finish-requires c =
    let x = c.args in
    let l = accepted-judged c.requires.accepts.ended c.requires.letter_rows in
    let find = c.find_matches-listed in record {
      accepts = c.requires.accepts;
      letter_rows = c.requires.letter_rows;
      filed = subst (λ (index : List ℕ). Filed x.stream.now x.rows.now identifier_column index x.count) (sym c.identifiers-names.ensures)
          c.requires.both_filed.identifiers;
      count_bound = λ finished.
          let rows = finished-rows x.edition x.side x.stream.now x.table.now x.room refl find.ensures l.judged
          (finished-list find.result c.measure-needed.result (length x.out.now) c.answer-shown.ensures finished) in
          omega (arith, l.held.holds.counted);
    }

pub put_texts-requires : goal.put_texts-requires
put_texts-requires c =
    let x = c.args in
    let l = accepted-judged c.requires.accepts.ended c.requires.letter_rows in
    let ends = subst (Ends _ _ (length x.out.now)) (sym c.answer-shown.ensures)
    (reading-ends _ _ (length x.out.now)) in
    let put = puts x.edition x.side x.stream.now x.table.now x.room x.out.now refl c.find_matches-listed.ensures l
    (stream-fine x.stream.now _ _ c.requires.accepts.ended) (omega (
      arith,
      c.requires.stream_in_bounds,
      c.find_matches-listed.auto.flat,
    )) refl
    c.measure-needed.ensures ends refl in
    record { accepts = c.requires.accepts; letter_rows = c.requires.letter_rows; listing = put.0; lines_in_bounds = put.1 }

pub returns : goal.returns
returns c =
    let x = c.args in
    let l = accepted-judged c.requires.accepts.ended c.requires.letter_rows in
    let all = refl in
    let size = c.measure-needed.ensures in
    let told = c.answer-shown.ensures in
    let ends = subst (Ends _ _ (length x.out.now)) (sym told) (reading-ends _ _ (length x.out.now)) in
    let lines = refl in
    let few = puts x.edition x.side x.stream.now x.table.now x.room x.out.now refl c.find_matches-listed.ensures l
    (stream-fine x.stream.now _ _ c.requires.accepts.ended) (omega (
      arith,
      c.requires.stream_in_bounds,
      c.find_matches-listed.auto.flat,
    )) all size ends lines in
    shows x.edition x.side x.stream.now x.table.now x.room x.out.now refl c.find_matches-listed.ensures all size (told
    ∙ answer_is x.edition x.side x.stream.now x.table.now x.room x.out.now refl c.find_matches-listed.ensures all size)
    c.finish.ensures ends lines few.0.room
    c.put_texts.auto.numbers c.put_texts.ensures
