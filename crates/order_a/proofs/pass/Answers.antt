-- `order_a::pass` meets its contract: the rows are taken in turn.
use mathlib.Core.Path.{sym, ◌∙◌}
use native.Mathlib.Omega.{arith}
use Rattle.order_a.proofs.Stepping.{walking-first, walking-more, walking-stops, walking-ends, walking-whole}
use Rattle.order_a.proofs.pass.Goals as goal

pub loop-k-init : goal.loop-k-init
loop-k-init c = rw c.first_walk-w.ensures (walking-first c.requires.n_nonzero.0 c.requires.n_nonzero.1)

pub look-layout-requires : goal.look-layout-requires
look-layout-requires c = record { letter_rows = c.requires.letter_rows; filed = c.requires.filed; u_lt_n = omega arith }

pub look-logical-requires : goal.look-logical-requires
look-logical-requires c = record { letter_rows = c.requires.letter_rows; filed = c.requires.filed; u_lt_n = omega arith }

pub take_row-requires : goal.take_row-requires
take_row-requires c = record {
  k_lt_n = (c.requires.letter_rows, omega arith);
  bounds = c.loop-k.invariant.bounds;
  own_at = (c.look-layout.ensures, c.look-logical.ensures);
}

pub returns-in-None : goal.returns-in-None
returns-in-None c = walking-stops c.loop-k.invariant c.in-None.ensures

pub loop-k-preserved : goal.loop-k-preserved
loop-k-preserved c = walking-more c.loop-k.invariant (omega arith) c.in-Some.ensures

pub returns-then-is_waiting : goal.returns-then-is_waiting
returns-then-is_waiting c = walking-ends c.loop-k.invariant (omega arith) (sym c.is_waiting.ensures ∙ c.if-is_waiting.true)

pub returns-else-is_waiting : goal.returns-else-is_waiting
returns-else-is_waiting c = walking-whole c.loop-k.invariant (omega arith) (sym c.is_waiting.ensures ∙ c.if-is_waiting.false)
