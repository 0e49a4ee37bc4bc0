-- `answers::list::list_judged` meets its contract: the list is found, and the table is finished or left by its number.
use mathlib.Core.Path.{refl, sym, subst}
use mathlib.Core.List.{List}
use Prim.Native.Nat.{ℕ}
use Rattle.rows.specs.Columns.{identifier_column}
use Rattle.rows.specs.Index.{Filed}
use native.Mathlib.Omega.{arith}
use Rattle.answers.proofs.Judging.{accepted-judged}
use Rattle.answers.proofs.Listing.{finished-rows, lists-finished}
use Rattle.answers.proofs.list.list_judged.Goals as goal

pub find_matches-listed-requires : goal.find_matches-listed-requires
find_matches-listed-requires c = record {
  accepts = c.requires.accepts;
  letter_rows = c.requires.letter_rows;
  both_filed = c.requires.both_filed;
  stream_in_bounds = c.requires.stream_in_bounds;
}

pub finish-requires : goal.finish-requires
finish-requires c =
    let x = c.args in
    let l = accepted-judged c.requires.accepts.ended c.requires.letter_rows in
    let found = c.find_matches-listed.ensures in record {
      accepts = c.requires.accepts;
      letter_rows = c.requires.letter_rows;
      filed = subst (λ (index : List ℕ). Filed x.stream.now x.rows.now identifier_column index x.count) (sym c.identifiers-names.ensures)
          c.requires.both_filed.identifiers;
      count_bound = λ finished.
          let rows = finished-rows x.edition x.side x.stream.now x.table.now x.room refl found l.judged finished in
          omega (arith, l.held.holds.counted);
    }

pub returns : goal.returns
returns c =
    let x = c.args in
    lists-finished x.edition x.side x.stream.now x.table.now x.room refl
    c.find_matches-listed.ensures c.finish.ensures
