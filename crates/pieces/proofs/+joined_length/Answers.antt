-- `pieces::joined_length` meets its contract. The loop's invariant: the octets of the run are those counted and those of what is left
-- of it. The function ends, for each call has fewer levels left.
use mathlib.Core.Path.{ap, ◌∙◌}
use Prim.Native.Nat.{ℕ}
use native.Mathlib.Omega.{arith}
use borrow.Author.Tests.{eq-eqb, ne_eqb}
use lib.ListN.{length}
use Rattle.runs.specs.Runs.{Meeting}
use Rattle.pieces.proofs.Levels.{level-less}
use Rattle.pieces.proofs.Joined.{gives-length, piece-gives, pieces-give, value-length, joined-none, joined-fits}
use Rattle.pieces.proofs.+joined_length.Goals as goal
use Rattle.pieces.proofs.+joined_length.Goals.{In-Some}

-- the item that is met
meeting : (t : ℕ) (c : In-Some t) →
    Meeting c.args.s.now c.loop-item.cur c.in-Some.item.code c.in-Some.item.first c.in-Some.item.past c.in-Some.item.inner c.in-Some.item.rest
meeting t c = c.in-Some.ensures

pub returns : goal.returns
returns t c =
    let s = c.args.s.now in
    let l = c.loop-item in
    let none_left = joined-none s l.cur c.in_default.ensures in
    omega (arith, l.invariant.2, ap length none_left)

pub joined_length-n-requires : goal.joined_length-n-requires
joined_length-n-requires t c = let m = meeting t (goal.at.joined_length-n-requires t c).In-Some in (omega (arith, level-less m), m.inner_fine)

pub overflow_add-n : goal.overflow_add-n
overflow_add-n t c =
    let g = pieces-give (meeting t (goal.at.overflow_add-n t c).In-Some) (eq-eqb _ _ c.if-item-eq1.true) in
    let l = c.loop-item in
    omega (
      arith,
      joined-fits c.requires,
      gives-length g,
      c.joined_length-n.ensures,
      l.invariant.2,
    )

pub loop-item-preserved-then-item-eq1 : goal.loop-item-preserved-then-item-eq1
loop-item-preserved-then-item-eq1 t c =
    let g = pieces-give (meeting t (goal.at.loop-item-preserved-then-item-eq1 t c).In-Some) (eq-eqb _ _ c.if-item-eq1.true) in
    let l = c.loop-item in
    (g.fine, g.room ∙ l.invariant.1, omega (arith, gives-length g, c.joined_length-n.ensures, l.invariant.2))

pub overflow_add-n-else-item-eq1 : goal.overflow_add-n-else-item-eq1
overflow_add-n-else-item-eq1 t c =
    let m = meeting t (goal.at.overflow_add-n-else-item-eq1 t c).In-Some in
    let g = piece-gives m (ne_eqb _ _ c.if-item-eq1.false) in
    let l = c.loop-item in
    omega (arith, joined-fits c.requires, gives-length g, value-length m, l.invariant.2)

pub loop-item-preserved : goal.loop-item-preserved
loop-item-preserved t c =
    let m = meeting t (goal.at.loop-item-preserved t c).In-Some in
    let g = piece-gives m (ne_eqb _ _ c.if-item-eq1.false) in
    let l = c.loop-item in
    (g.fine, g.room ∙ l.invariant.1, omega (arith, gives-length g, value-length m, l.invariant.2))
