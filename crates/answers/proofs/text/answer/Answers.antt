-- `answers::text::answer` meets its contract: its tests are those of the definition.
use mathlib.Core.Path.{◌≡◌, ◌∙◌}
use mathlib.Core.Bool.{true, false}
use lib.Dec.{eqb, ltb}
use borrow.Author.Tests.{eq-eqb, ne_eqb, lt-ltb, le-ltb}
use native.Mathlib.Omega.{arith}
use Rattle.answers.proofs.text.answer.Goals as goal

pub returns-then-listed-ne0 : goal.returns-then-listed-ne0
returns-then-listed-ne0 c =
    let a = c.args in
    let t : eqb a.listed.number 0 ≡ false = ne_eqb a.listed.number 0 c.if-listed-ne0.true in
    c.refuse.ensures ∙ rw t

pub returns-then-lent-needed : goal.returns-then-lent-needed
returns-then-lent-needed c =
    let a = c.args in
    let t : eqb a.listed.number 0 ≡ true = eq-eqb a.listed.number 0 c.if-listed-ne0.false in
    let u : ltb a.lent a.needed ≡ true = lt-ltb a.lent a.needed c.if-lent-needed.true in
    c.refuse-then-lent-needed.ensures ∙ rw (t, u)

pub returns : goal.returns
returns c =
    let a = c.args in
    let t : eqb a.listed.number 0 ≡ true = eq-eqb a.listed.number 0 c.if-listed-ne0.false in
    let u : ltb a.lent a.needed ≡ false = le-ltb a.lent a.needed (omega (arith, c.if-lent-needed.false)) in
    rw (t, u)
