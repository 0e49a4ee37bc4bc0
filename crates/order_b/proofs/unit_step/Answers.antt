-- `order_b::unit_step` meets its contract: the unit's owner is the one of its record.
use Rattle.order_b.specs.Steps.{state_of}
use Rattle.order_b.proofs.Seeing.{unit-nobody, unit-other, unit-own}
use Rattle.order_b.proofs.unit_step.Goals as goal

pub returns-in_err-owner : goal.returns-in_err-owner
returns-in_err-owner c elements ready aside =
    rw c.from_residual.ensures (unit-nobody ready c.args.u c.requires.u_lt_n aside (state_of c.args.state) (c.in_err-owner.ensures elements ready))

pub returns-then-owner-state : goal.returns-then-owner-state
returns-then-owner-state c elements ready aside =
    let owner = c.in_ok-owner.owner in
    unit-other ready c.args.u c.requires.u_lt_n aside (state_of c.args.state) owner.row owner.portion (c.in_ok-owner.ensures elements ready)
    c.if-owner-state.true

pub returns : goal.returns
returns c elements ready aside =
    let owner = c.in_ok-owner.owner in
    unit-own ready c.args.u c.requires.u_lt_n aside (state_of c.args.state) owner.row owner.portion (c.in_ok-owner.ensures elements ready)
    c.saturating_sub.result c.saturating_sub.ensures c.if-owner-state.false
