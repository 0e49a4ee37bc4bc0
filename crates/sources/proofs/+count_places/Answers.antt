-- `sources::count_places` meets its contract. The loop's invariant: the places of the run are those counted and those of what is left of it. The function
-- ends, for each call has fewer levels left.
use mathlib.Core.Path.{ap, ◌∙◌}
use Prim.Native.Nat.{ℕ}
use native.Mathlib.Omega.{arith}
use borrow.Author.Tests.{eq-eqb, ne_eqb}
use lib.ListN.{length}
use Rattle.runs.specs.Runs.{Meeting}
use Rattle.pieces.proofs.Levels.{level-less}
use Rattle.sources.proofs.Places.{gives-length, piece-gives, empty-gives, pieces-give, places-none, places-few}
use Rattle.sources.proofs.+count_places.Goals as goal
use Rattle.sources.proofs.+count_places.Goals.{In-Some}

-- the item that is met
meeting : (t : ℕ) (c : In-Some t) →
    Meeting c.args.s.now c.loop-item.cur c.in-Some.item.code c.in-Some.item.first c.in-Some.item.past c.in-Some.item.inner c.in-Some.item.rest
meeting t c = c.in-Some.ensures

pub returns : goal.returns
returns t c =
    let s = c.args.s.now in
    let l = c.loop-item in
    let none_left = places-none s l.cur c.in_default.ensures in
    omega (arith, l.invariant.2, ap length none_left)

pub count_places-n-requires : goal.count_places-n-requires
count_places-n-requires t c = let m = meeting t (goal.at.count_places-n-requires t c).In-Some in (omega (arith, level-less m), m.inner_fine)

pub overflow_add-n : goal.overflow_add-n
overflow_add-n t c =
    let g = pieces-give (meeting t (goal.at.overflow_add-n t c).In-Some) (eq-eqb _ _ c.if-item-eq1.true) in
    let l = c.loop-item in
    omega (arith, places-few c.requires, gives-length g, c.count_places-n.ensures, l.invariant.2)

pub loop-item-preserved-then-item-eq1 : goal.loop-item-preserved-then-item-eq1
loop-item-preserved-then-item-eq1 t c =
    let g = pieces-give (meeting t (goal.at.loop-item-preserved-then-item-eq1 t c).In-Some) (eq-eqb _ _ c.if-item-eq1.true) in
    let l = c.loop-item in
    (g.fine, g.room ∙ l.invariant.1, omega (arith, gives-length g, c.count_places-n.ensures, l.invariant.2))

pub overflow_add-n-then-item : goal.overflow_add-n-then-item
overflow_add-n-then-item t c =
    let g = piece-gives (meeting t (goal.at.overflow_add-n-then-item t c).In-Some) (ne_eqb _ _ c.if-item-eq1.false) c.if-item.true in
    let l = c.loop-item in
    omega (arith, places-few c.requires, gives-length g, l.invariant.2)

pub loop-item-preserved-then-item : goal.loop-item-preserved-then-item
loop-item-preserved-then-item t c =
    let g = piece-gives (meeting t (goal.at.loop-item-preserved-then-item t c).In-Some) (ne_eqb _ _ c.if-item-eq1.false) c.if-item.true in
    let l = c.loop-item in
    (g.fine, g.room ∙ l.invariant.1, omega (arith, gives-length g, l.invariant.2))

pub loop-item-preserved : goal.loop-item-preserved
loop-item-preserved t c =
    let g = empty-gives (meeting t (goal.at.loop-item-preserved t c).In-Some) (ne_eqb _ _ c.if-item-eq1.false) c.if-item.false in
    let l = c.loop-item in
    (g.fine, g.room ∙ l.invariant.1, omega (arith, gives-length g, l.invariant.2))
