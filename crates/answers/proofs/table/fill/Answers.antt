-- `answers::table::fill` meets its contract: the rows are put in turn.
use native.Mathlib.Omega.{arith}
use Rattle.answers.proofs.Tabling.{filling-all, filling-more, filling-none}
use Rattle.answers.proofs.table.fill.Goals as goal

pub loop-j-init : goal.loop-j-init
loop-j-init c = let a = c.args in filling-all a.s.now a.rows.now a.count a.table.now

pub put_row-requires : goal.put_row-requires
put_row-requires c =
    let (few, room) = c.requires.count_le_most_elements in record {
      letter_rows = c.requires.letter_rows;
      filed = c.requires.filed;
      j_lt_count = (c.loop-j-test.true, few, omega (arith, room, c.loop-j.invariant.kept));
    }

pub loop-j-preserved : goal.loop-j-preserved
loop-j-preserved c =
    filling-more c.loop-j.invariant c.loop-j-test.true c.put_row.ensures
    c.put_row.auto.table

pub shape_of-table : goal.shape_of-table
shape_of-table c = c.loop-j.invariant.kept

pub returns : goal.returns
returns c = filling-none c.loop-j.invariant c.loop-j-test.false c.requires.count_le_most_elements.1
