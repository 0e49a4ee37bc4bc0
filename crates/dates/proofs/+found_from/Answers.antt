-- `dates::found_from` meets its contract. The loop's invariant: `had` tells what the part of the run that is passed has on the path.
-- The function ends, for each call is one octet further on the path.
use mathlib.Core.Path.{◌∙◌}
use native.Mathlib.Omega.{arith}
use Rattle.dates.proofs.Places.{at_start, at-end, go_on, pass-over, zero-tells, zero-adds, path-adds, other-adds}
use Rattle.dates.proofs.+found_from.Goals as goal

pub loop-item-init : goal.loop-item-init
loop-item-init t c = let a = c.args in (c.requires, at_start a.s.now a.level a.r)

pub meet-requires : goal.meet-requires
meet-requires t c = c.loop-item.invariant.0

pub returns : goal.returns
returns t c = at-end c.loop-item.invariant.1 c.in_default.ensures

pub loop-item-smaller-then-level-eq0 : goal.loop-item-smaller-then-level-eq0
loop-item-smaller-then-level-eq0 t c = c.in-Some.ensures.less

pub loop-item-preserved-then-level-eq0 : goal.loop-item-preserved-then-level-eq0
loop-item-preserved-then-level-eq0 t c =
    let m = c.in-Some.ensures in
    let a = c.args in
    let own = zero-tells a.s.now c.in-Some.item.code c.in-Some.item.first c.in-Some.item.past m.value_order m.value_inside in
    (m.rest_fine, rw (c.both-had.ensures, c.zero_at.ensures) (go_on c.loop-item.invariant.1 _ (zero-adds m a.level c.if-level-eq0.true) own))

pub found_from-requires : goal.found_from-requires
found_from-requires t c = (omega arith, c.in-Some.ensures.inner_fine)

pub loop-item-smaller-then-item-path_octet : goal.loop-item-smaller-then-item-path_octet
loop-item-smaller-then-item-path_octet t c = c.in-Some.ensures.less

pub loop-item-preserved-then-item-path_octet : goal.loop-item-preserved-then-item-path_octet
loop-item-preserved-then-item-path_octet t c =
    let m = c.in-Some.ensures in
    let e = path-adds m c.args.level c.if-level-eq0.false (c.if-item-path_octet.true ∙ c.path_octet.ensures) in
    (m.rest_fine, rw c.both-had-then-item-path_octet.ensures (go_on c.loop-item.invariant.1 _ e c.found_from.ensures))

pub loop-item-smaller : goal.loop-item-smaller
loop-item-smaller t c = c.in-Some.ensures.less

pub loop-item-preserved : goal.loop-item-preserved
loop-item-preserved t c =
    let m = c.in-Some.ensures in (
      m.rest_fine,
      pass-over c.loop-item.invariant.1
          (other-adds m c.args.level c.if-level-eq0.false (rw c.path_octet.ensures at c.if-item-path_octet.false)),
    )
