-- `names::is_asked` meets its contract: a joined name is as long as its parts and the space, and is compared part by part.
use mathlib.Core.Path.{◌≡◌, sym, ap, ◌∙◌}
use mathlib.Core.Bool.{◌&&◌}
use Prim.Native.Nat.{◌+◌}
use borrow.Author.Tests.{eq-eqb, ne_eqb}
use lib.Dec.{eqb}
use lib.ListN.{length, get_or, take, drop}
use Rattle.names.specs.Names.{space_byte, same}
use Rattle.names.specs.Asked.{spelling}
use Rattle.names.proofs.Parts.{left_is}
use Rattle.names.proofs.Same.{joined-other, joined_same}
use Rattle.names.proofs.is_asked.Goals as goal
use Rattle.names.proofs.is_asked.Goals.{
  Else-name-size,
  then-not-is_same-via-then-not-is_same,
  then-not-is_same-via-else-not-is_same+then-name-size-ne-SPACE,
}

-- past the test of the lengths, the three comparisons that are left
parts : (c : Else-name-size) →
    let front = c.args.asked.front.now in
    let name = c.args.name.now in
    let at = length front in
    same (spelling c.args.asked) name
    ≡ (same front (take at name) && (eqb space_byte (get_or name at 0) && same c.in-Some.back.now (drop (at + 1) name)))
parts c = rw c.in-Some.is (joined_same c.args.asked.front.now c.in-Some.back.now c.args.name.now c.if-name-size.false)

pub returns-then-name-size : goal.returns-then-name-size
returns-then-name-size c =
    rw c.in-Some.is (sym (joined-other c.args.asked.front.now c.in-Some.back.now c.args.name.now c.if-name-size.true))

pub returns-then-not-is_same : goal.returns-then-not-is_same
returns-then-not-is_same c =
    let is = parts (goal.at.returns-then-not-is_same c).Else-name-size in
    sym (is ∙ elim c.then-not-is_same.branch [
      | then-not-is_same-via-then-not-is_same w ↦ rw (sym c.is_same-in-Some.ensures ∙ w.if-not-is_same.true)
      | then-not-is_same-via-else-not-is_same+then-name-size-ne-SPACE w ↦ rw (
        sym c.is_same-in-Some.ensures ∙ w.if-not-is_same.false,
        ne_eqb _ _ (λ e. w.if-name-size-ne-SPACE.true (sym e)),
      )
    ])

pub returns-else-name-size-ne-SPACE : goal.returns-else-name-size-ne-SPACE
returns-else-name-size-ne-SPACE c =
    let back = c.in-Some.back.now in
    let at = length c.args.asked.front.now + 1 in
    let name = c.args.name.now in
    c.is_same-in-Some-2.ensures ∙ ap (same back) (left_is at name)
    ∙ sym (parts (goal.at.returns-else-name-size-ne-SPACE c).Else-name-size ∙ rw (
      sym c.is_same-in-Some.ensures ∙ c.if-not-is_same.false,
      eq-eqb _ _ (sym c.if-name-size-ne-SPACE.false),
    ))
