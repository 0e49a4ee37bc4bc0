-- `order_b::head_step` meets its contract.
use mathlib.Core.Path.{sym, ◌∙◌}
use native.Mathlib.Omega.{arith}
use Rattle.letters.proofs.Telling.{rows_tell}
use Rattle.owners.proofs.Telling.{meetable}
use Rattle.order_b.specs.Steps.{state_of}
use Rattle.order_b.proofs.Seeing.{head-not, head-cannot, head-goes}
use Rattle.order_b.proofs.head_step.Goals as goal

pub kind_at-kind-requires : goal.kind_at-kind-requires
kind_at-kind-requires c = omega (arith, c.requires.j_lt_n, c.requires.letter_rows.1.holds.identifiers.in_table)

pub returns-then-not-may_follow : goal.returns-then-not-may_follow
returns-then-not-may_follow c elements ready aside =
    head-not ready c.args.j c.requires.j_lt_n (state_of c.args.state) c.kind_at-kind.result c.kind_at-kind.ensures
    (sym c.may_follow.ensures ∙ c.if-not-may_follow.true)

pub portions_of-left-requires : goal.portions_of-left-requires
portions_of-left-requires c =
    record {
      scratch_width_in_bounds = omega (arith, c.requires.j_lt_n, c.requires.letter_rows.1.holds.identifiers.in_table);
      meetable = meetable (rows_tell c.requires.letter_rows.1) c.args.j c.requires.j_lt_n;
    }

pub can_come-requires : goal.can_come-requires
can_come-requires c = omega (
  arith,
  c.requires.j_lt_n,
  c.requires.letter_rows.1.holds.identifiers.in_table,
)

pub returns-then-not-can_come : goal.returns-then-not-can_come
returns-then-not-can_come c elements ready aside =
    let lists = c.portions_of-left in
    let can = c.can_come in
    head-cannot ready c.args.j c.requires.j_lt_n c.kind_at-kind.result lists.result can.result c.kind_at-kind.ensures
    lists.ensures can.ensures
    (state_of c.args.state) (sym c.may_follow.ensures
    ∙ c.if-not-may_follow.false) c.if-not-can_come.true

pub returns : goal.returns
returns c elements ready aside =
    let lists = c.portions_of-left in
    let can = c.can_come in
    head-goes ready c.args.j c.requires.j_lt_n c.kind_at-kind.result lists.result can.result c.kind_at-kind.ensures
    lists.ensures can.ensures
    (state_of c.args.state) (sym c.may_follow.ensures
    ∙ c.if-not-may_follow.false)
    c.rank_of.result c.rank_of.ensures c.if-not-can_come.false
