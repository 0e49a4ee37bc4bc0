-- `turns::reach` meets its contract: the rows are counted in turn.
use Prim.Native.Nat.{◌<◌}
use native.Mathlib.Omega.{arith}
use Rattle.letters.proofs.Telling.{rows_tell, few-rows}
use Rattle.order_a.proofs.Reaching.{counted_none, counts-few, counted-more, counted-all}
use Rattle.order_a.proofs.turns.reach.Goals as goal

pub loop-at-init : goal.loop-at-init
loop-at-init c = let a = c.args in counted_none a.s.now a.rows.now a.n a.kind a.row a.base c.requires.row_le_to.2

pub count_in-total-requires : goal.count_in-total-requires
count_in-total-requires c = record { letter_rows = c.requires.letter_rows; j_lt_n = omega (arith, c.requires.row_le_to.1) }

pub overflow_add-total : goal.overflow_add-total
overflow_add-total c =
    let at = c.loop-at in
    let l : at.at < c.args.n = omega (arith, c.requires.row_le_to.1) in
    omega (
      arith,
      at.invariant.small,
      counts-few (rows_tell c.requires.letter_rows.1) c.args.kind at.at l,
      c.count_in-total.ensures,
      few-rows c.requires.letter_rows.1,
    )

pub loop-at-preserved : goal.loop-at-preserved
loop-at-preserved c =
    let at = c.loop-at in
    let l : at.at < c.args.n = omega (arith, c.requires.row_le_to.1) in
    rw c.count_in-total.ensures (counted-more at.invariant (rows_tell c.requires.letter_rows.1) l)

pub returns : goal.returns
returns c = let at = c.loop-at in counted-all at.invariant (omega (arith, c.requires.row_le_to.0))
