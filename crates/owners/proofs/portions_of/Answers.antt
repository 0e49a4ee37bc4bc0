-- `owners::portions_of` meets its contract: each portion that is met is counted.
use native.Mathlib.Omega.{arith}
use Rattle.owners.proofs.Telling.{left-all, left-none, left-more, left-small}
use Rattle.owners.proofs.portions_of.Goals as goal

pub loop-item-init : goal.loop-item-init
loop-item-init c = rw c.portions_at-left.ensures (left-all c.requires.meetable)

pub meet-requires : goal.meet-requires
meet-requires c = c.loop-item.invariant.fine

pub returns : goal.returns
returns c = left-none c.loop-item.invariant c.in_default.ensures

pub overflow_add-count : goal.overflow_add-count
overflow_add-count c = omega (arith, left-small c.loop-item.invariant c.in-Some.ensures c.requires.meetable)

pub loop-item-smaller : goal.loop-item-smaller
loop-item-smaller c = c.in-Some.ensures.less

pub loop-item-preserved : goal.loop-item-preserved
loop-item-preserved c = left-more c.loop-item.invariant c.in-Some.ensures
