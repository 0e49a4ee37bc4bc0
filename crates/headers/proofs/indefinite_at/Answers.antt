-- `headers::indefinite_at` meets its contract: its test is that of `indefinite_at`.
use borrow.Author.Tests.{eq-eqb, ne_eqb}
use Rattle.headers.specs.Head.{indefinite_at}
use Rattle.headers.proofs.indefinite_at.Goals as goal

pub returns-then-code-ne1 : goal.returns-then-code-ne1
unfolding indefinite_at
returns-then-code-ne1 c = simp (ne_eqb _ _ c.if-code-ne1.true)

pub returns : goal.returns
unfolding indefinite_at
returns c = simp (eq-eqb _ _ c.if-code-ne1.false, c.number_of.ensures)
