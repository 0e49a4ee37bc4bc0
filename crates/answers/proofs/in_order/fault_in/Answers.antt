-- `in_order::fault_in` meets its contract: the pass of the class.
use mathlib.Core.Path.{sym, subst}
use Rattle.order.specs.declared.Class.{Class}
use Rattle.order.specs.Fault.{FaultIn}
use Rattle.answers.proofs.in_order.fault_in.Goals as goal

pub returns-in-A : goal.returns-in-A
returns-in-A c =
    let a = c.args in
    subst (λ (class : Class). FaultIn class a.s.now a.rows.now a.n c.fault_a.result) (sym c.in-A.is) c.fault_a.ensures

pub returns-in-B : goal.returns-in-B
returns-in-B c =
    let a = c.args in
    subst (λ (class : Class). FaultIn class a.s.now a.rows.now a.n c.fault_b.result) (sym c.in-B.is)
    c.fault_b.ensures
