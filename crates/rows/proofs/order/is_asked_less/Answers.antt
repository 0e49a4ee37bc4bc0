-- `rows::order::is_asked_less` meets its contract: a joined name is compared with its first part, unless that part is a front of the other.
use mathlib.Core.Path.{◌≡◌, sym, ap, ◌∙◌}
use mathlib.Core.Bool.{cond}
use mathlib.Core.List.{◌∷◌}
use Prim.Native.Nat.{◌+◌}
use borrow.Author.Tests.{eq-eqb, ne_eqb}
use lib.Dec.{eqb, ltb}
use lib.ListN.{length, get_or, take, drop}
use Rattle.names.specs.Names.{space_byte, same}
use Rattle.names.specs.Asked.{spelling}
use Rattle.names.proofs.Parts.{left_is}
use Rattle.rows.specs.Order.{less}
use Rattle.rows.proofs.Less.{less-short, joined-long}
use Rattle.rows.proofs.order.is_asked_less.Goals as goal
use Rattle.rows.proofs.order.is_asked_less.Goals.{Else-name-size}

-- past the test of the lengths, what is left to compare
parts : (c : Else-name-size) →
    let front = c.args.asked.front.now in
    let name = c.args.name.now in
    let at = length front in
    less (spelling c.args.asked) name
    ≡ cond (same front (take at name))
    (cond (eqb space_byte (get_or name at 0)) (less c.in-Some.back.now (drop (at + 1) name)) (ltb space_byte (get_or name at 0)))
    (less front (take at name))
parts c = rw c.in-Some.is (joined-long c.args.asked.front.now c.in-Some.back.now c.args.name.now c.if-name-size.false)

pub returns-then-name-size : goal.returns-then-name-size
returns-then-name-size c =
    let front = c.args.asked.front.now in
    rw c.in-Some.is (c.is_less-then-name-size.ensures ∙ sym (less-short front (space_byte ∷ c.in-Some.back.now) c.args.name.now c.if-name-size.true))

pub returns-then-not-is_same : goal.returns-then-not-is_same
returns-then-not-is_same c =
    sym (parts (goal.at.returns-then-not-is_same c).Else-name-size ∙ rw (sym c.is_same.ensures ∙ c.if-not-is_same.true) (
    sym c.is_less-then-not-is_same.ensures
    ))

pub returns-then-name-size-ne-SPACE : goal.returns-then-name-size-ne-SPACE
returns-then-name-size-ne-SPACE c =
    sym (parts (goal.at.returns-then-name-size-ne-SPACE c).Else-name-size ∙ rw (
      sym c.is_same.ensures ∙ c.if-not-is_same.false,
      ne_eqb _ _ (λ e. c.if-name-size-ne-SPACE.true (sym e)),
    ))

pub returns-else-name-size-ne-SPACE : goal.returns-else-name-size-ne-SPACE
returns-else-name-size-ne-SPACE c =
    let back = c.in-Some.back.now in
    let at = length c.args.asked.front.now + 1 in
    let name = c.args.name.now in
    c.is_less-in-Some.ensures ∙ ap (less back) (left_is at name)
    ∙ sym (parts (goal.at.returns-else-name-size-ne-SPACE c).Else-name-size ∙ rw (
      sym c.is_same.ensures ∙ c.if-not-is_same.false,
      eq-eqb _ _ (sym c.if-name-size-ne-SPACE.false),
    ))
