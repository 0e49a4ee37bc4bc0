-- `order_a::take_row` meets its contract: what is seen is judged by the step.
use mathlib.Core.Path.{ap, sym, ◌∙◌}
use native.Mathlib.Omega.{arith}
use Rattle.order_a.specs.Turns.{row_for}
use Rattle.order_a.specs.declared.turns.Own.{Own}
use Rattle.order_a.proofs.Stepping.{row_low, row_on, small_is, stops, goes}
use Rattle.order_a.proofs.take_row.Goals as goal

pub reach-base-requires : goal.reach-base-requires
reach-base-requires c =
    let a = c.args in
    let by = c.kind_for-kind in
    let to = c.row_for-row in
    let row_is = to.ensures ∙ ap (λ (o : Own). row_for o by.result a.w.row) c.own_for.ensures in record {
      letter_rows = c.requires.k_lt_n.0;
      row_le_to = (
        row_on c.requires.k_lt_n.0.1 a.k c.requires.k_lt_n.1 a.w c.requires.bounds a.layout a.logical c.requires.own_at.0
            c.requires.own_at.1 by.result to.result by.ensures row_is,
        omega (
          arith,
          row_low c.requires.k_lt_n.0.1 a.k c.requires.k_lt_n.1 a.w c.requires.bounds a.layout a.logical c.requires.own_at.0
              c.requires.own_at.1 by.result to.result by.ensures row_is,
          c.requires.k_lt_n.1,
        ),
        c.requires.bounds.base,
      );
    }

pub see-x-requires : goal.see-x-requires
see-x-requires c = (c.requires.k_lt_n.0, c.requires.k_lt_n.1)

pub returns-then-not-may_stand : goal.returns-then-not-may_stand
returns-then-not-may_stand c =
    let a = c.args in
    let by = c.kind_for-kind in
    let to = c.row_for-row in
    let row_is = to.ensures ∙ ap (λ (o : Own). row_for o by.result a.w.row) c.own_for.ensures in
    let base = c.reach-base in
    let x = c.see-x in
    stops c.requires.k_lt_n.0.1 a.k c.requires.k_lt_n.1 a.w c.requires.bounds a.layout a.logical c.requires.own_at.0
    c.requires.own_at.1 by.result to.result by.ensures row_is base.result base.ensures x.result x.ensures
    (sym c.may_stand.ensures ∙ c.if-not-may_stand.true)

pub walk_on-requires : goal.walk_on-requires
walk_on-requires c =
    let a = c.args in
    let by = c.kind_for-kind in
    let to = c.row_for-row in
    let row_is = to.ensures ∙ ap (λ (o : Own). row_for o by.result a.w.row) c.own_for.ensures in
    let base = c.reach-base in
    let x = c.see-x in
    small_is c.requires.k_lt_n.0.1 a.k c.requires.k_lt_n.1 a.w c.requires.bounds a.layout a.logical c.requires.own_at.0
    c.requires.own_at.1 by.result to.result by.ensures row_is base.result base.ensures x.result x.ensures

pub returns : goal.returns
returns c =
    let a = c.args in
    let by = c.kind_for-kind in
    let to = c.row_for-row in
    let row_is = to.ensures ∙ ap (λ (o : Own). row_for o by.result a.w.row) c.own_for.ensures in
    let base = c.reach-base in
    let x = c.see-x in
    goes c.requires.k_lt_n.0.1 a.k c.requires.k_lt_n.1 a.w c.requires.bounds a.layout a.logical c.requires.own_at.0
    c.requires.own_at.1 by.result to.result by.ensures row_is base.result base.ensures x.result x.ensures c.walk_on.result
    c.walk_on.ensures (sym c.may_stand.ensures ∙ c.if-not-may_stand.false)
