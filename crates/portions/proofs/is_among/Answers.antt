-- `portions::is_among` meets its contract. The loop's invariant: the value k stands after itself exactly if it stands from j on.
use mathlib.Core.Path.{◌≡◌, refl, sym, ◌∙◌}
use native.Mathlib.Omega.{arith}
use Prim.Native.Nat.{◌≤◌}
use lib.ListN.{length}
use Rattle.std.proofs.lemmas.Slice.{between_is}
use Rattle.names.specs.Names.{same}
use Rattle.portions.specs.Bounds.{bounded_at}
use Rattle.portions.proofs.Pairs.{inside-more, among-more, among_none}
use Rattle.portions.proofs.is_among.Goals as goal
use Rattle.portions.proofs.is_among.Goals.{After-bounds_of-one, After-bounds_of-other, After-is_same}

-- the bounds of the value k, and of the value j
here : (c : After-bounds_of-one) → let one = c.bounds_of-one.result in (one.first ≤ one.past) × (one.past ≤ length c.args.s.now)
here c =
    let a = c.args in
    let p = c.requires in
    let m = inside-more a.s.now a.bounds.now a.k a.count p.0 p.1 p.2 in
    rw c.bounds_of-one.ensures (m.0, m.1)

there : (c : After-bounds_of-other) → let other = c.bounds_of-other.result in (other.first ≤ other.past) × (other.past ≤ length c.args.s.now)
there c =
    let a = c.args in
    let m = inside-more a.s.now a.bounds.now c.loop-j.j a.count c.loop-j-test.true c.requires.1 c.loop-j.invariant.0 in
    rw c.bounds_of-other.ensures (m.0, m.1)

-- what was found of them
compared : (c : After-is_same) →
    let a = c.args in
    same (bounded_at a.s.now a.bounds.now a.k) (bounded_at a.s.now a.bounds.now c.loop-j.j)
    ≡ c.is_same.result
compared c =
    let s = c.args.s.now in
    let one = c.bounds_of-one.result in
    let other = c.bounds_of-other.result in
    sym (c.is_same.ensures ∙ rw (between_is s one.first one.past, between_is s other.first other.past, c.bounds_of-other.ensures, c.bounds_of-one.ensures))

pub slice_bounds-value-count : goal.slice_bounds-value-count
slice_bounds-value-count c = (here (goal.at.slice_bounds-value-count c).After-bounds_of-one).0

pub slice_bounds-value-start : goal.slice_bounds-value-start
slice_bounds-value-start c = (here (goal.at.slice_bounds-value-start c).After-bounds_of-one).0

pub slice_bounds-value-end : goal.slice_bounds-value-end
slice_bounds-value-end c = (here (goal.at.slice_bounds-value-end c).After-bounds_of-one).1

pub slice_bounds-is_same-count : goal.slice_bounds-is_same-count
slice_bounds-is_same-count c = (there (goal.at.slice_bounds-is_same-count c).After-bounds_of-other).0

pub slice_bounds-is_same-start : goal.slice_bounds-is_same-start
slice_bounds-is_same-start c = (there (goal.at.slice_bounds-is_same-start c).After-bounds_of-other).0

pub slice_bounds-is_same-end : goal.slice_bounds-is_same-end
slice_bounds-is_same-end c = (there (goal.at.slice_bounds-is_same-end c).After-bounds_of-other).1

pub loop-j-init : goal.loop-j-init
loop-j-init c =
    let a = c.args in
    let p = c.requires in
    ((inside-more a.s.now a.bounds.now a.k a.count p.0 p.1 p.2).2, refl)

pub returns-then-is_same : goal.returns-then-is_same
returns-then-is_same c =
    let a = c.args in
    let l = c.loop-j in
    sym (l.invariant.1
    ∙ among-more a.s.now a.bounds.now l.j a.count c.loop-j-test.true c.requires.1 (bounded_at a.s.now a.bounds.now a.k)
    ∙ rw (compared (goal.at.returns-then-is_same c).After-is_same ∙ c.if-is_same.true))

pub loop-j-preserved : goal.loop-j-preserved
loop-j-preserved c =
    let a = c.args in
    let l = c.loop-j in (
      (inside-more a.s.now a.bounds.now l.j a.count c.loop-j-test.true c.requires.1 l.invariant.0).2,
      l.invariant.1
          ∙ among-more a.s.now a.bounds.now l.j a.count c.loop-j-test.true c.requires.1 (bounded_at a.s.now a.bounds.now a.k)
          ∙ rw (compared (goal.at.loop-j-preserved c).After-is_same ∙ c.if-is_same.false),
    )

pub returns : goal.returns
returns c =
    let a = c.args in
    let l = c.loop-j in
    let e : l.j ≡ a.count = omega arith in
    sym (l.invariant.1 ∙ rw e (among_none a.s.now a.bounds.now a.count (bounded_at a.s.now a.bounds.now a.k)))
