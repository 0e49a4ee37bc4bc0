-- `headers::read_head` meets its contract: the tests that led to each return say which case of `head_at` holds.
use mathlib.Core.Path.{◌∙◌, sym}
use borrow.Author.Tests.{eq-eqb, ne_eqb}
use Rattle.headers.specs.Head.{head_at, item_at}
use Rattle.headers.proofs.read_head.Goals as goal

pub returns-then-octet-eq0 : goal.returns-then-octet-eq0
unfolding head_at item_at
returns-then-octet-eq0 c = simp (eq-eqb _ _ c.if-octet-eq0.true, c.closing_at.ensures)

pub returns-then-room-eq0 : goal.returns-then-room-eq0
unfolding head_at item_at
returns-then-room-eq0 c = simp (ne_eqb _ _ c.if-octet-eq0.false, eq-eqb _ _ c.if-room-eq0.true)

pub returns-in-Ok : goal.returns-in-Ok
unfolding head_at item_at
returns-in-Ok c =
    let told = sym c.field_at.ensures ∙ c.in-Ok.is in
    simp (
      ne_eqb _ _ c.if-octet-eq0.false,
      ne_eqb _ _ c.if-room-eq0.false,
      told,
      c.length_at.ensures,
    )

pub returns-in-Err : goal.returns-in-Err
unfolding head_at item_at
returns-in-Err c =
    let told = sym c.field_at.ensures ∙ c.in-Err.is in
    simp (ne_eqb _ _ c.if-octet-eq0.false, ne_eqb _ _ c.if-room-eq0.false, told)
