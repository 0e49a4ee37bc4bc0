-- `sources::put_places` meets its contract. The invariant of the loop is `PutSoFar`. The function ends, for each call has fewer levels left.
--
use mathlib.Core.List.{[], ◌∷◌}
use Prim.Native.Nat.{ℕ, ◌+◌, ◌*◌, ◌≤◌}
use native.Mathlib.Omega.{arith}
use borrow.Author.Tests.{eq-eqb, ne_eqb}
use lib.ListN.{length}
use Rattle.runs.specs.Runs.{items_of, Meeting}
use Rattle.pieces.proofs.Levels.{level-less}
use Rattle.pieces.proofs.Putting.{part_length}
use Rattle.sources.specs.Places.{places_of}
use Rattle.sources.proofs.Places.{Gives, piece-gives, empty-gives, pieces-give}
use Rattle.sources.proofs.Putting.{all-put, fits, more-put, one-put, none_more}
use Rattle.sources.proofs.+put_places.Goals as goal
use Rattle.sources.proofs.+put_places.Goals.{In-Some, Then-item-eq1, Then-item}

-- the item that is met
meeting : (t : ℕ) (c : In-Some t) →
    Meeting c.args.s.now c.loop-item.cur c.in-Some.item.code c.in-Some.item.first c.in-Some.item.past c.in-Some.item.inner c.in-Some.item.rest
meeting t c = c.in-Some.ensures

-- what a constructed item gives, and what a piece gives
inner-gives : (t : ℕ) (c : Then-item-eq1 t) →
    let s = c.args.s.now in
    Gives s c.loop-item.cur (places_of (items_of s c.in-Some.item.inner)) c.in-Some.item.rest
inner-gives t c = pieces-give (meeting t (goal.at.Then-item-eq1 t c).In-Some) (eq-eqb _ _ c.if-item-eq1.true)

piece-here : (t : ℕ) (c : Then-item t) →
    let s = c.args.s.now in
    Gives s c.loop-item.cur (record { first = c.in-Some.item.first; past = c.in-Some.item.past } ∷ []) c.in-Some.item.rest
piece-here t c = piece-gives (meeting t (goal.at.Then-item t c).In-Some) (ne_eqb _ _ c.if-item-eq1.false) c.if-item.true

-- there is room for it
inner-fits : (t : ℕ) (c : Then-item-eq1 t) →
    let s = c.args.s.now in
    let l = c.loop-item in
    l.done + 3 * length (places_of (items_of s c.in-Some.item.inner)) ≤ length l.list
inner-fits t c =
    fits c.loop-item.invariant (inner-gives t c) c.requires.r_in_bounds

piece-fits : (t : ℕ) (c : Then-item t) →
    let l = c.loop-item in
    l.done + 3 ≤ length l.list
piece-fits t c =
    fits c.loop-item.invariant (piece-here t c)
    c.requires.r_in_bounds

pub returns : goal.returns
returns t c =
    let s = c.args.s.now in
    let l = c.loop-item in
    let told = all-put l.invariant c.in_default.ensures in
    record { value = told.0; list_after = told.1 }

pub put_places-done-requires : goal.put_places-done-requires
put_places-done-requires t c =
    let m = meeting t (goal.at.put_places-done-requires t c).In-Some in
    let l = c.loop-item in
    let room = inner-fits t (goal.at.put_places-done-requires t c).Then-item-eq1 in
    (omega (arith, level-less m), ((m.inner_fine, c.requires.fine.1), omega (arith, room, part_length l.list l.done)))

pub overflow_add-done : goal.overflow_add-done
overflow_add-done t c = omega (arith, inner-fits t (goal.at.overflow_add-done t c).Then-item-eq1, c.put_places-done.ensures.value)

pub loop-item-preserved-then-item-eq1 : goal.loop-item-preserved-then-item-eq1
loop-item-preserved-then-item-eq1 t c =
    let here = (goal.at.loop-item-preserved-then-item-eq1 t c).Then-item-eq1 in
    let l = c.loop-item in
    let room = inner-fits t here in
    let put = c.put_places-done in
    more-put l.invariant (inner-gives t here) put.result _ put.ensures.value (omega (arith, put.ensures.value)) put.ensures.list_after

pub overflow_cast-item : goal.overflow_cast-item
overflow_cast-item t c =
    let m = meeting t (goal.at.overflow_cast-item t c).In-Some in
    omega (arith, m.value_order, m.value_inside, c.requires.fine.1)

pub overflow_cast-item-then-item : goal.overflow_cast-item-then-item
overflow_cast-item-then-item t c =
    let m = meeting t (goal.at.overflow_cast-item-then-item t c).In-Some in
    omega (arith, m.value_inside, c.requires.fine.1)

pub put_source-requires : goal.put_source-requires
put_source-requires t c = omega (arith, piece-fits t (goal.at.put_source-requires t c).Then-item)

pub overflow_add-done-then-item : goal.overflow_add-done-then-item
overflow_add-done-then-item t c = omega (arith, piece-fits t (goal.at.overflow_add-done-then-item t c).Then-item)

pub loop-item-preserved-then-item : goal.loop-item-preserved-then-item
loop-item-preserved-then-item t c =
    let here = (goal.at.loop-item-preserved-then-item t c).Then-item in
    let l = c.loop-item in
    one-put l.invariant (piece-here t here) (piece-fits t here) _ c.put_source.ensures

pub loop-item-preserved : goal.loop-item-preserved
loop-item-preserved t c =
    none_more c.loop-item.invariant
    (empty-gives (meeting t (goal.at.loop-item-preserved t c).In-Some) (ne_eqb _ _ c.if-item-eq1.false) c.if-item.false)
