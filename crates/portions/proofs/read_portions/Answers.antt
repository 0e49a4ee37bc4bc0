-- `portions::read_portions` meets its contract. The loop's invariant: so many were read, and the rest of the run is left.
use mathlib.Core.Path.{refl, ◌∙◌}
use Prim.Native.Nat.{◌*◌, ◌≤◌}
use native.Mathlib.Omega.{arith}
use lib.ListN.{length}
use Rattle.portions.specs.Portions.{most_portions}
use Rattle.portions.proofs.Reading.{starts, all_read, other-read, one-read}
use Rattle.portions.proofs.read_portions.Goals as goal

pub loop-item-init : goal.loop-item-init
loop-item-init c = let a = c.args in (refl, starts a.s.now a.r a.bounds.now c.requires.0)

pub meet-requires : goal.meet-requires
meet-requires c = c.loop-item.invariant.1.fine

pub returns : goal.returns
returns c = all_read c.loop-item.invariant.1 c.in_default.ensures

pub returns-then-item-ne-PORTION : goal.returns-then-item-ne-PORTION
returns-then-item-ne-PORTION c = other-read c.loop-item.invariant.1 c.in-Some.ensures c.if-item-ne-PORTION.true

pub is_misspelt-misspelt-requires : goal.is_misspelt-misspelt-requires
is_misspelt-misspelt-requires c = let m = c.in-Some.ensures in (m.value_order, m.value_inside)

pub keep_bounds-requires : goal.keep_bounds-requires
keep_bounds-requires c =
    let m = c.in-Some.ensures in
    let p = c.requires in
    let l = c.loop-item in
    (omega (arith, l.invariant.0, p.2), omega (arith, m.value_order, m.value_inside, p.1), omega (arith, m.value_inside, p.1))

pub overflow_add-count : goal.overflow_add-count
overflow_add-count c =
    let p = c.requires in
    omega (arith, c.in-Some.ensures.less, c.loop-item.invariant.1.short, p.0.inside, p.1)

pub loop-item-smaller : goal.loop-item-smaller
loop-item-smaller c = c.in-Some.ensures.less

pub loop-item-preserved : goal.loop-item-preserved
loop-item-preserved c =
    let l = c.loop-item in
    let enough : 2 * most_portions ≤ length l.bounds = omega (arith, l.invariant.0, c.requires.2) in (
      c.keep_bounds.auto.bounds ∙ l.invariant.0,
      rw c.is_misspelt-misspelt.ensures
          (one-read l.invariant.1 c.in-Some.ensures c.if-item-ne-PORTION.false c.keep_bounds.new.bounds enough c.keep_bounds.ensures),
    )
