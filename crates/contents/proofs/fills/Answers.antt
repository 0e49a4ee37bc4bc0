-- `contents::fills` meets its contract: it answers by the count of the opening, as `in_order` does.
use native.Mathlib.Omega.{arith}
use borrow.Author.Tests.{eq-eqb, ne_eqb}
use Rattle.contents.proofs.Orders.{filled_more, filled-in_order}
use Rattle.contents.proofs.fills.Goals as goal

pub returns-then-not-one : goal.returns-then-not-one
returns-then-not-one c s r k =
    let a = c.args in
    rw (← filled-in_order s r a.o a.one a.two k, c.in-0.is, c.if-not-one.true)

pub returns-else-not-one : goal.returns-else-not-one
returns-else-not-one c s r k =
    let a = c.args in
    rw (← filled-in_order s r a.o a.one a.two k, c.in-0.is, c.if-not-one.false)

pub returns-in-1 : goal.returns-in-1
returns-in-1 c s r k =
    let a = c.args in
    rw (← filled-in_order s r a.o a.one a.two k, c.in-1.is) c.fills_either.ensures

pub returns-then-o-one : goal.returns-then-o-one
returns-then-o-one c s r k =
    let a = c.args in
    rw (← filled-in_order s r a.o a.one a.two k, c.in-2.is, eq-eqb _ _ c.if-o-one.true)

pub returns-else-o-one : goal.returns-else-o-one
returns-else-o-one c s r k =
    let a = c.args in
    rw (← filled-in_order s r a.o a.one a.two k, c.in-2.is, ne_eqb _ _ c.if-o-one.false)

pub returns-in_default : goal.returns-in_default
returns-in_default c s r k =
    let a = c.args in
    rw (← filled-in_order s r a.o a.one a.two k) (filled_more a.o.count _ _ a.one a.two (omega arith))
