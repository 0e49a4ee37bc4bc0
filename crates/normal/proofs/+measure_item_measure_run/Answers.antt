-- The proof of the cycle of calls {measure_item, measure_run}, which ends as `walk_item` and `walk_run` do: 2 room + 1 for `measure_run`,
-- 2 room for `measure_item`. The invariant of the loop is `Counted`.
use mathlib.Core.Path.{ap, sym, ◌∙◌}
use Prim.Native.Nat.{ℕ, ◌+◌, ◌*◌, ◌≤◌}
use native.Mathlib.Omega.{arith}
use borrow.Author.Tests.{eq-eqb, ne_eqb}
use lib.ListN.{length}
use Rattle.std.specs.Prelude.{Some, None}
use Rattle.normal.specs.Normal.{Octets}
use Rattle.normal.specs.Passes.{header_size}
use Rattle.normal.proofs.Passes.{Turn, meets, turned, value-run-ends}
use Rattle.normal.proofs.Measuring.{plain-measured, run-measured, none-counted, all-counted, bounded, item-counted}
use Rattle.normal.proofs.+measure_item_measure_run.Goals as goal
use Rattle.normal.proofs.+measure_item_measure_run.Goals.{measure_run-In-Some, measure_run-After-measure_item-m}

pub measure_item-measure_run-requires : goal.measure_item-measure_run-requires
measure_item-measure_run-requires t c =
    let a = c.args in
    (omega arith, value-run-ends a.room a.s.now a.h c.requires (eq-eqb _ _ c.if-h-eq1.true))

pub measure_item-returns-then-h-eq1 : goal.measure_item-returns-then-h-eq1
measure_item-returns-then-h-eq1 t c =
    let a = c.args in
    run-measured a.room a.s.now a.h (eq-eqb _ _ c.if-h-eq1.true) c.measure_run.result c.measure_run.ensures

pub measure_item-returns-else-h-eq1 : goal.measure_item-returns-else-h-eq1
measure_item-returns-else-h-eq1 t c =
    let a = c.args in
    plain-measured a.room a.s.now a.h c.requires (ne_eqb _ _ c.if-h-eq1.false)

-- the item that was met at `at`
met-item : (t : ℕ) (c : measure_run-In-Some t) →
    let a = c.args in
    Turn a.room a.s.now c.loop-h.at a.limit a.marked c.in-Some.h
met-item t c =
    let a = c.args in
    let l = c.loop-h in
    meets a.room a.s.now l.at a.limit a.marked l.invariant.left (Some c.in-Some.h) (sym c.in-Some.ensures)

pub measure_run-loop-h-init : goal.measure_run-loop-h-init
measure_run-loop-h-init t c =
    let a = c.args in
    none-counted a.room a.s.now a.from a.limit a.marked c.requires

pub measure_run-meet-requires : goal.measure_run-meet-requires
measure_run-meet-requires t c = c.loop-h.invariant.left

pub measure_run-measure_item-m-requires : goal.measure_run-measure_item-m-requires
measure_run-measure_item-m-requires t c = (omega arith, (met-item t (goal.at.measure_run-measure_item-m-requires t c).In-Some).inside)

-- where the run goes on, and a bound of what is counted then
next : (t : ℕ) (c : measure_run-After-measure_item-m t) →
    let a = c.args in
    let l = c.loop-h in
    let m = c.measure_item-m.result in
    (l.at + 2 ≤ m.next) × (m.next ≤ a.limit) × (l.size + (header_size c.in-Some.h.code m.size + m.size) ≤ 3 * length a.s.now)
next t c =
    let a = c.args in
    let l = c.loop-h in
    let m = c.measure_item-m in
    let u = met-item t (goal.at.measure_run-After-measure_item-m t c).In-Some in
    let k = turned a.room a.s.now l.at a.limit a.marked c.in-Some.h u m.result m.ensures in
    let b = bounded a.room a.s.now a.from a.limit a.marked l.at l.size l.shortest l.invariant c.in-Some.h u m.result m.ensures
    c.requires in
    (k.0, k.1, b)

pub measure_run-header_size-head-requires : goal.measure_run-header_size-head-requires
measure_run-header_size-head-requires t c = let n = next t (goal.at.measure_run-header_size-head-requires t c).After-measure_item-m in omega arith

pub measure_run-stays_shortest-shortest-requires : goal.measure_run-stays_shortest-shortest-requires
measure_run-stays_shortest-shortest-requires t c = let o = (met-item t (goal.at.measure_run-stays_shortest-shortest-requires t c).In-Some).lies in omega arith

pub measure_run-overflow_add-size : goal.measure_run-overflow_add-size
measure_run-overflow_add-size t c = let n = next t (goal.at.measure_run-overflow_add-size t c).After-measure_item-m in omega (arith, c.header_size-head.ensures)

pub measure_run-overflow_add-size-in-Some : goal.measure_run-overflow_add-size-in-Some
measure_run-overflow_add-size-in-Some t c = let n = next t (goal.at.measure_run-overflow_add-size-in-Some t c).After-measure_item-m in omega (arith, c.header_size-head.ensures)

pub measure_run-loop-h-smaller : goal.measure_run-loop-h-smaller
measure_run-loop-h-smaller t c = let n = next t (goal.at.measure_run-loop-h-smaller t c).After-measure_item-m in omega (arith, n.0, n.1)

pub measure_run-loop-h-preserved : goal.measure_run-loop-h-preserved
measure_run-loop-h-preserved t c =
    let a = c.args in
    let l = c.loop-h in
    let octets : Octets a.s.now = λ i. omega (arith, c.type_inv.s i) in
    let m = c.measure_item-m in
    let head = c.header_size-head in
    let stays = c.stays_shortest-shortest in
    item-counted a.room a.s.now a.from a.limit a.marked l.at l.size l.shortest l.invariant c.in-Some.h
    (met-item t (goal.at.measure_run-loop-h-preserved t c).In-Some) m.result m.ensures octets _ stays.result
    (ap (λ (k : ℕ). l.size + k + m.result.size) head.ensures)
    (λ b. let (p, n, i, q) = stays.ensures b in (p, n, i, q ∙ ap (λ (k : ℕ). l.at + k) head.ensures))

pub measure_run-returns-then-marked : goal.measure_run-returns-then-marked
measure_run-returns-then-marked t c =
    let a = c.args in
    let l = c.loop-h in
    all-counted a.room a.s.now a.from a.limit a.marked l.at l.size l.shortest l.invariant
    (meets a.room a.s.now l.at a.limit a.marked l.invariant.left None (sym c.in_default.ensures)) _ (rw c.if-marked.true)

pub measure_run-returns-else-marked : goal.measure_run-returns-else-marked
measure_run-returns-else-marked t c =
    let a = c.args in
    let l = c.loop-h in
    all-counted a.room a.s.now a.from a.limit a.marked l.at l.size l.shortest l.invariant
    (meets a.room a.s.now l.at a.limit a.marked l.invariant.left None (sym c.in_default.ensures)) _ (rw c.if-marked.false)
