-- `pieces::put_joined` meets its contract. The invariant of the loop is `PutSoFar`. The function ends, for each call has fewer levels
-- left.
use mathlib.Core.Path.{◌≡◌, ap}
use Prim.Native.Nat.{ℕ, ◌+◌, ◌-◌, ◌≤◌}
use native.Mathlib.Omega.{arith}
use borrow.Author.Tests.{eq-eqb, ne_eqb}
use lib.ListN.{length, take, drop}
use lib.Seq.{slice}
use Rattle.runs.specs.Runs.{tree_in, Meeting}
use Rattle.pieces.specs.Pieces.{joined}
use Rattle.pieces.proofs.Levels.{level-less}
use Rattle.pieces.proofs.Joined.{Gives, piece-gives, pieces-give}
use Rattle.pieces.proofs.Putting.{part_from, part_length, part_slice, copied, all-put, fits, more-put}
use Rattle.pieces.proofs.+put_joined.Goals as goal
use Rattle.pieces.proofs.+put_joined.Goals.{In-Some, Then-item-eq1, Else-item-eq1}

-- the item that is met
meeting : (t : ℕ) (c : In-Some t) →
    Meeting c.args.s.now c.loop-item.cur c.in-Some.item.code c.in-Some.item.first c.in-Some.item.past c.in-Some.item.inner c.in-Some.item.rest
meeting t c = c.in-Some.ensures

-- what a constructed item gives, and what a piece gives
inner-gives : (t : ℕ) (c : Then-item-eq1 t) →
    let s = c.args.s.now in
    Gives s c.loop-item.cur (joined (tree_in s c.in-Some.item.inner)) c.in-Some.item.rest
inner-gives t c = pieces-give (meeting t (goal.at.Then-item-eq1 t c).In-Some) (eq-eqb _ _ c.if-item-eq1.true)

value-gives : (t : ℕ) (c : Else-item-eq1 t) →
    let s = c.args.s.now in
    Gives s c.loop-item.cur (slice c.in-Some.item.first c.in-Some.item.past s) c.in-Some.item.rest
value-gives t c = piece-gives (meeting t (goal.at.Else-item-eq1 t c).In-Some) (ne_eqb _ _ c.if-item-eq1.false)

-- there is room for it
inner-fits : (t : ℕ) (c : Then-item-eq1 t) →
    let s = c.args.s.now in
    let l = c.loop-item in
    l.done + length (joined (tree_in s c.in-Some.item.inner)) ≤ length l.out
inner-fits t c =
    fits c.loop-item.invariant (inner-gives t c) c.requires.1

value-fits : (t : ℕ) (c : Else-item-eq1 t) →
    let s = c.args.s.now in
    let l = c.loop-item in
    l.done + length (slice c.in-Some.item.first c.in-Some.item.past s) ≤ length l.out
value-fits t c =
    fits c.loop-item.invariant (value-gives t c) c.requires.1

-- what is copied of a piece is its value
value : (t : ℕ) (c : Else-item-eq1 t) →
    let s = c.args.s.now in
    take (c.in-Some.item.past - c.in-Some.item.first) (drop c.in-Some.item.first s) ≡ slice c.in-Some.item.first c.in-Some.item.past s
value t c =
    let s = c.args.s.now in
    part_slice c.in-Some.item.first c.in-Some.item.past s (meeting t (goal.at.Else-item-eq1 t c).In-Some).value_order

pub returns : goal.returns
returns t c =
    let s = c.args.s.now in
    let l = c.loop-item in
    let told = all-put l.invariant c.in_default.ensures in
    record { value = told.0; out_after = told.1 }

pub put_joined-done-requires : goal.put_joined-done-requires
put_joined-done-requires t c =
    let m = meeting t (goal.at.put_joined-done-requires t c).In-Some in
    let l = c.loop-item in
    (omega (arith, level-less m), (m.inner_fine, omega (arith, inner-fits t (goal.at.put_joined-done-requires t c).Then-item-eq1, part_length l.out l.done)))

pub loop-item-preserved-then-item-eq1 : goal.loop-item-preserved-then-item-eq1
loop-item-preserved-then-item-eq1 t c =
    let here = (goal.at.loop-item-preserved-then-item-eq1 t c).Then-item-eq1 in
    let put = c.put_joined-done in
    more-put c.loop-item.invariant (inner-gives t here) (inner-fits t here) put.result _ put.ensures.value put.ensures.out_after

pub copy-done-requires : goal.copy-done-requires
copy-done-requires t c =
    let here = (goal.at.copy-done-requires t c).Else-item-eq1 in
    let l = c.loop-item in
    omega (arith, value-fits t here, ap length (value t here), part_length l.out l.done)

pub loop-item-preserved : goal.loop-item-preserved
loop-item-preserved t c =
    let here = (goal.at.loop-item-preserved t c).Else-item-eq1 in
    let l = c.loop-item in
    let put = copied _ _ (part_from l.out l.done) _ c.copy-done.result (value t here) c.copy-done.ensures.count c.copy-done.ensures.out_after in
    more-put l.invariant (value-gives t here) (value-fits t here) c.copy-done.result _ put.0 put.1
