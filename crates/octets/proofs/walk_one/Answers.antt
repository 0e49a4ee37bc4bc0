-- `octets::walk_one` meets its contract: what stands at the place decides, as in a turn of the run walker.
use mathlib.Core.Path.{sym, ◌∙◌}
use mathlib.Core.Bool.{false}
use native.Mathlib.Omega.{arith}
use Rattle.octets.proofs.Turns.{header_ok, passed_ok, broken-ok}
use Rattle.octets.proofs.Ones.{one-ends, one-closes, one-refuses, one_passes, one-breaks}
use Rattle.octets.proofs.walk_one.Goals as goal

pub returns-then-limit-at : goal.returns-then-limit-at
returns-then-limit-at c =
    let a = c.args in
    sym (one-ends a.room a.s.now a.at a.limit c.if-limit-at.true)

pub walk_item-requires : goal.walk_item-requires
walk_item-requires c =
    let a = c.args in
    let o = header_ok a.s.now a.at a.limit a.room false c.in-Item.h (sym c.read_head.ensures ∙ c.in-Item.is) in
    (o.deep, o.order, omega arith)

pub overflow_add-result-in-Ok : goal.overflow_add-result-in-Ok
overflow_add-result-in-Ok c =
    let a = c.args in
    let e = sym c.read_head.ensures ∙ c.in-Item.is in
    let o = passed_ok a.room a.s.now a.at a.limit false c.in-Item.h e _ _ (sym c.walk_item.ensures ∙ c.in-Ok.is) in
    omega arith

pub overflow_add-result-in-Err : goal.overflow_add-result-in-Err
overflow_add-result-in-Err c =
    let a = c.args in
    let e = sym c.read_head.ensures ∙ c.in-Item.is in
    let o = broken-ok a.room a.s.now a.at a.limit false c.in-Item.h e _ _ _ (sym c.walk_item.ensures ∙ c.in-Err.is) in
    omega arith

pub returns-in-ClosingMark : goal.returns-in-ClosingMark
returns-in-ClosingMark c =
    let a = c.args in
    sym (one-closes a.room a.s.now a.at a.limit c.if-limit-at.false (sym c.read_head.ensures
    ∙ c.in-ClosingMark.is))

pub returns-in-Refusal : goal.returns-in-Refusal
returns-in-Refusal c =
    let a = c.args in
    sym (one-refuses a.room a.s.now a.at a.limit c.if-limit-at.false _ _
    (sym c.read_head.ensures ∙ c.in-Refusal.is))

pub returns-in-Ok : goal.returns-in-Ok
returns-in-Ok c =
    let a = c.args in
    let e = sym c.read_head.ensures ∙ c.in-Item.is in
    sym (one_passes a.room a.s.now a.at a.limit c.if-limit-at.false
    c.in-Item.h e _ _ (sym c.walk_item.ensures ∙ c.in-Ok.is))

pub returns-in-Err : goal.returns-in-Err
returns-in-Err c =
    let a = c.args in
    let e = sym c.read_head.ensures ∙ c.in-Item.is in
    sym (one-breaks a.room a.s.now a.at a.limit c.if-limit-at.false
    c.in-Item.h e _ _ _ (sym c.walk_item.ensures ∙ c.in-Err.is))
