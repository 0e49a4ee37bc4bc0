-- `order_b::step_b` meets its contract: a unit takes the one step, any other element the other.
use mathlib.Core.Path.{sym, ◌∙◌}
use native.Mathlib.Omega.{arith}
use Rattle.order_b.specs.Steps.{state_of}
use Rattle.order_b.proofs.Seeing.{step-unit, step-head}
use Rattle.order_b.proofs.step_b.Goals as goal

pub kind_at-requires : goal.kind_at-requires
kind_at-requires c = omega (arith, c.requires.j_lt_n, c.requires.letter_rows.1.holds.identifiers.in_table)

pub returns-then-kind_at-eq-TEXT_UNIT : goal.returns-then-kind_at-eq-TEXT_UNIT
returns-then-kind_at-eq-TEXT_UNIT c elements ready aside =
    c.unit_step.ensures elements ready aside
    ∙ step-unit ready c.args.j c.requires.j_lt_n (state_of c.args.state) (sym c.kind_at.ensures ∙ c.if-kind_at-eq-TEXT_UNIT.true)

pub returns-else-kind_at-eq-TEXT_UNIT : goal.returns-else-kind_at-eq-TEXT_UNIT
returns-else-kind_at-eq-TEXT_UNIT c elements ready aside =
    c.head_step.ensures elements ready aside
    ∙ step-head ready c.args.j c.requires.j_lt_n (state_of c.args.state) (λ e. c.if-kind_at-eq-TEXT_UNIT.false (c.kind_at.ensures ∙ e))
