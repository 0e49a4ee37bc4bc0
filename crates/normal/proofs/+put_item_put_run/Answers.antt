-- The proof of the cycle of calls {put_item, put_run}, which ends as `walk_item` and `walk_run` do: 2 room + 1 for `put_run`, 2 room for
-- `put_item`. The invariant of the loop is `PutSoFar`.
use mathlib.Core.Path.{◌≡◌, ap, sym}
use Prim.Native.Nat.{ℕ, ◌+◌, ◌*◌, ◌≤◌}
use native.Mathlib.Omega.{arith}
use lib.ListN.{length, length-append}
use lib.Seq.{slice}
use Rattle.headers.specs.Head.{type_field}
use Rattle.std.specs.Prelude.{Some, None}
use Rattle.normal.specs.Normal.{length_octets, Octets}
use Rattle.normal.specs.Passes.{normal_in, header_size}
use Rattle.normal.proofs.Lengths.{length-length}
use Rattle.normal.proofs.Own.{octets-field}
use Rattle.normal.proofs.Passes.{Turn, meets, turned, value-run, value-run-ends}
use Rattle.normal.proofs.Putting.{copies, none-put, all-put, fits, item-put}
use Rattle.normal.proofs.+put_item_put_run.Goals as goal
use Rattle.normal.proofs.+put_item_put_run.Goals.{put_item-Then-m, put_run-In-Some, put_run-After-measure_item-m}

-- where the value is copied from
copied : (t : ℕ) (c : put_item-Then-m t) →
    let a = c.args in
    (a.h.start + a.m.size ≤ a.h.bound) × (normal_in a.room a.s.now a.h ≡ slice a.h.start (a.h.start + a.m.size) a.s.now)
copied t c =
    let a = c.args in
    let p = c.requires in
    copies a.room a.s.now a.h p.0 a.m p.1 c.if-m.true

pub put_item-put_value-requires : goal.put_item-put_value-requires
put_item-put_value-requires t c =
    let k = copied t (goal.at.put_item-put_value-requires t c).Then-m in
    let p = c.requires in
    (omega arith, omega (arith, k.0, p.0.within), omega (arith, p.1.measures.size, p.2))

pub put_item-put_run-requires : goal.put_item-put_run-requires
put_item-put_run-requires t c =
    let a = c.args in
    let p = c.requires in
    let k = p.1.inner c.if-m.false in
    let n = ap length (value-run a.room a.s.now a.h k).1 in
    (omega arith, (value-run-ends a.room a.s.now a.h p.0 k, omega (arith, p.2)))

pub put_item-shape_of-out-then-m : goal.put_item-shape_of-out-then-m
put_item-shape_of-out-then-m t c = c.put_value.auto.out

pub put_item-returns-then-m : goal.put_item-returns-then-m
put_item-returns-then-m t c = rw (copied t (goal.at.put_item-returns-then-m t c).Then-m).1 c.put_value.ensures

pub put_item-shape_of-out-else-m : goal.put_item-shape_of-out-else-m
put_item-shape_of-out-else-m t c = c.put_run.auto.out

pub put_item-returns-else-m : goal.put_item-returns-else-m
put_item-returns-else-m t c =
    let a = c.args in
    let p = c.requires in
    rw (value-run a.room a.s.now a.h (p.1.inner c.if-m.false)).1 c.put_run.ensures

-- the item that was met at `at`
met-item : (t : ℕ) (c : put_run-In-Some t) →
    let a = c.args in
    Turn a.room a.s.now c.loop-h.at a.limit a.marked c.in-Some.h
met-item t c =
    let a = c.args in
    let l = c.loop-h in
    meets a.room a.s.now l.at a.limit a.marked l.invariant.left (Some c.in-Some.h) (sym c.in-Some.ensures)

-- where the run goes on, and that there is room for the item
next : (t : ℕ) (c : put_run-After-measure_item-m t) →
    let a = c.args in
    let l = c.loop-h in
    let m = c.measure_item-m.result in
    (l.at + 2 ≤ m.next) × (m.next ≤ a.limit) × (l.pos + (header_size c.in-Some.h.code m.size + m.size) ≤ length l.out)
    × (m.size ≤ 3 * length a.s.now)
next t c =
    let a = c.args in
    let l = c.loop-h in
    let m = c.measure_item-m in
    let u = met-item t (goal.at.put_run-After-measure_item-m t c).In-Some in
    let k = turned a.room a.s.now l.at a.limit a.marked c.in-Some.h u m.result m.ensures in
    let f = fits a.room a.s.now a.from a.limit a.marked a.out.now a.begin l.at l.pos l.out l.invariant c.in-Some.h u
    m.result m.ensures
    c.requires.1 in
    (k.0, k.1, f.0, f.1)

pub put_run-loop-h-init : goal.put_run-loop-h-init
put_run-loop-h-init t c =
    let a = c.args in
    none-put a.room a.s.now a.from a.limit a.marked a.out.now a.begin c.requires.0

pub put_run-meet-requires : goal.put_run-meet-requires
put_run-meet-requires t c = c.loop-h.invariant.left

pub put_run-measure_item-m-requires : goal.put_run-measure_item-m-requires
put_run-measure_item-m-requires t c = (met-item t (goal.at.put_run-measure_item-m-requires t c).In-Some).inside

pub put_run-put_header-past-requires : goal.put_run-put_header-past-requires
put_run-put_header-past-requires t c =
    let a = c.args in
    let l = c.loop-h in
    let octets : Octets a.s.now = λ i. omega (arith, c.type_inv.s i) in
    let u = met-item t (goal.at.put_run-put_header-past-requires t c).In-Some in
    let n = next t (goal.at.put_run-put_header-past-requires t c).After-measure_item-m in
    (omega arith, octets-field a.s.now l.at a.limit a.room c.in-Some.h octets u.read, omega (arith, n.2))

pub put_run-put_item-pos-requires : goal.put_run-put_item-pos-requires
put_run-put_item-pos-requires t c =
    let u = met-item t (goal.at.put_run-put_item-pos-requires t c).In-Some in
    let n = next t (goal.at.put_run-put_item-pos-requires t c).After-measure_item-m in
    let m = c.measure_item-m in
    let size = length-append (type_field c.in-Some.h.code) (length_octets m.result.size) in (
      omega arith,
      (u.inside, m.ensures, omega (arith, n.2, c.put_header-past.ensures.to, c.put_header-past.auto.out, m.ensures.measures.size, size, length-length m.result.size)),
    )

pub put_run-loop-h-smaller : goal.put_run-loop-h-smaller
put_run-loop-h-smaller t c = let n = next t (goal.at.put_run-loop-h-smaller t c).After-measure_item-m in omega (arith, n.0, n.1)

pub put_run-loop-h-preserved : goal.put_run-loop-h-preserved
put_run-loop-h-preserved t c =
    let a = c.args in
    let l = c.loop-h in
    let u = met-item t (goal.at.put_run-loop-h-preserved t c).In-Some in
    let m = c.measure_item-m in
    let p = c.put_header-past in
    let q = c.put_item-pos in
    item-put a.room a.s.now a.from a.limit a.marked a.out.now a.begin l.at l.pos l.out l.invariant c.in-Some.h u m.result m.ensures
    p.result q.result _ _ p.ensures q.ensures

pub put_run-shape_of-out : goal.put_run-shape_of-out
put_run-shape_of-out t c = c.loop-h.invariant.kept

pub put_run-returns : goal.put_run-returns
put_run-returns t c =
    let a = c.args in
    let l = c.loop-h in
    all-put a.room a.s.now a.from a.limit a.marked a.out.now a.begin l.at l.pos l.out l.invariant
    (meets a.room a.s.now l.at a.limit a.marked l.invariant.left None (sym c.in_default.ensures))
