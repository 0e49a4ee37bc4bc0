-- `elements::rules::object_type` meets its contract: by how many octets the pair bounds.
use native.Mathlib.Omega.{arith}
use Rattle.elements.proofs.Values.{type-absent, type-long, type-one, type-beyond}
use Rattle.elements.proofs.rules.object_type.Goals as goal

pub returns-then-past-eq0 : goal.returns-then-past-eq0
returns-then-past-eq0 c = (omega arith, type-absent c.args.s.now c.args.v c.args.types c.if-past-eq0.true)

pub returns-then-past-first-ne1 : goal.returns-then-past-first-ne1
returns-then-past-first-ne1 c =
    (tt, type-long c.args.s.now c.args.v c.args.types c.if-past-eq0.false c.if-past-first-ne1.true)

pub returns-then-value-types : goal.returns-then-value-types
returns-then-value-types c = (
  omega arith,
  type-one c.args.s.now c.args.v c.args.types c.if-past-eq0.false c.if-past-first-ne1.false c.if-value-types.true,
)

pub returns : goal.returns
returns c =
    (tt, type-beyond c.args.s.now c.args.v c.args.types c.if-past-eq0.false c.if-past-first-ne1.false c.if-value-types.false)
