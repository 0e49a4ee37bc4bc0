-- `order_b::first_step` meets its contract.
use native.Mathlib.Omega.{arith}
use Rattle.letters.proofs.Telling.{rows_tell}
use Rattle.owners.proofs.Telling.{meetable}
use Rattle.order_b.proofs.Seeing.{first-not, first-cannot, first_goes}
use Rattle.order_b.proofs.first_step.Goals as goal

pub kind_at-kind-requires : goal.kind_at-kind-requires
kind_at-kind-requires c = omega (arith, c.requires.n_nonzero, c.requires.letter_rows.1.holds.identifiers.in_table)

pub returns-then-kind-ne-PROFILE : goal.returns-then-kind-ne-PROFILE
returns-then-kind-ne-PROFILE c elements ready aside = first-not ready 0 c.requires.n_nonzero
    c.kind_at-kind.result c.kind_at-kind.ensures c.if-kind-ne-PROFILE.true

pub portions_of-left-requires : goal.portions_of-left-requires
portions_of-left-requires c =
    record {
      scratch_width_in_bounds = omega (arith, c.requires.n_nonzero, c.requires.letter_rows.1.holds.identifiers.in_table);
      meetable = meetable (rows_tell c.requires.letter_rows.1) 0 c.requires.n_nonzero;
    }

pub can_come-requires : goal.can_come-requires
can_come-requires c = omega (
  arith,
  c.requires.n_nonzero,
  c.requires.letter_rows.1.holds.identifiers.in_table,
)

pub returns-then-not-can_come : goal.returns-then-not-can_come
returns-then-not-can_come c elements ready aside =
    let lists = c.portions_of-left in
    let can = c.can_come in
    first-cannot ready 0 c.requires.n_nonzero c.kind_at-kind.result lists.result can.result c.kind_at-kind.ensures lists.ensures can.ensures
    c.if-kind-ne-PROFILE.false c.if-not-can_come.true

pub returns : goal.returns
returns c elements ready aside =
    let lists = c.portions_of-left in
    let can = c.can_come in
    first_goes ready 0 c.requires.n_nonzero c.kind_at-kind.result lists.result can.result c.kind_at-kind.ensures lists.ensures can.ensures
    c.rank_of.result c.rank_of.ensures c.if-kind-ne-PROFILE.false c.if-not-can_come.false
