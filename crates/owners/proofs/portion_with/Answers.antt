-- `owners::portion_with` meets its contract. The loop's invariant: the answer among all portions is that among those that are left.
use mathlib.Core.Path.{refl, sym, ◌∙◌}
use native.Mathlib.Omega.{arith}
use Rattle.laws.proofs.Parts.{part-slice}
use Rattle.owners.proofs.Telling.{left-all, left-more, left-small}
use Rattle.owners.proofs.Among.{among_none, among-met, among-rest}
use Rattle.owners.proofs.portion_with.Goals as goal

pub loop-item-init : goal.loop-item-init
loop-item-init c = rw c.portions_at-left.ensures (left-all c.requires.meetable, refl)

pub meet-requires : goal.meet-requires
meet-requires c = c.loop-item.invariant.0.fine

pub returns : goal.returns
returns c =
    let l = c.loop-item.invariant in
    sym (l.1 ∙ among_none l.0 c.args.octets.now c.in_default.ensures)

pub returns-then-is_same : goal.returns-then-is_same
returns-then-is_same c =
    let l = c.loop-item.invariant in
    let item = c.in-Some.item in
    let part = part-slice item.first item.past c.args.s.now c.in-Some.ensures.value_order in
    sym (l.1 ∙ among-met l.0 c.args.octets.now c.in-Some.ensures (rw part at (sym c.is_same.ensures ∙ c.if-is_same.true)))

pub overflow_add-portion : goal.overflow_add-portion
overflow_add-portion c = omega (arith, left-small c.loop-item.invariant.0 c.in-Some.ensures c.requires.meetable)

pub loop-item-smaller : goal.loop-item-smaller
loop-item-smaller c = c.in-Some.ensures.less

pub loop-item-preserved : goal.loop-item-preserved
loop-item-preserved c =
    let l = c.loop-item.invariant in
    let item = c.in-Some.item in
    let part = part-slice item.first item.past c.args.s.now c.in-Some.ensures.value_order in
    let other = rw part at (sym c.is_same.ensures ∙ c.if-is_same.false) in
    (left-more l.0 c.in-Some.ensures, l.1 ∙ among-rest l.0 c.args.octets.now c.in-Some.ensures other)
