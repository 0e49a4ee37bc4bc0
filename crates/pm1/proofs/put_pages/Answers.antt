-- `pm1::put_pages` meets its contract: each element that is met puts its record, if it is a page. The measure is what is left of the run.
use native.Mathlib.Omega.{arith}
use Rattle.runs.specs.Runs.{Meeting}
use Rattle.pm1.proofs.Going.{going-all, element-low, element-row, record-room, going_more, going-none}
use Rattle.pm1.proofs.put_pages.Goals as goal
use Rattle.pm1.proofs.put_pages.Goals.{In-Some}

-- the element that is met
meeting : (c : In-Some) →
    Meeting c.args.stream.now
    c.loop-item.left c.in-Some.item.code c.in-Some.item.first c.in-Some.item.past c.in-Some.item.inner c.in-Some.item.rest
meeting c = c.in-Some.ensures

pub loop-item-init : goal.loop-item-init
loop-item-init c =
    let a = c.args in
    rw c.whole_stream-left.ensures (going-all a.stream.now a.table.now a.list.now c.requires)

pub meet-requires : goal.meet-requires
meet-requires c = c.loop-item.invariant.fine

pub shape_of-list : goal.shape_of-list
shape_of-list c = c.loop-item.invariant.kept

pub returns : goal.returns
returns c =
    let l = c.loop-item in
    going-none c.requires l.invariant (rw c.in_default.is at c.meet.ensures)

pub put_element-count-requires : goal.put_element-count-requires
put_element-count-requires c =
    let l = c.loop-item in
    let m = meeting (goal.at.put_element-count-requires c).In-Some in
    record { fine = (m.inner_fine, element-low c.requires l.invariant m, element-row c.requires l.invariant m); inner_in_bounds = record-room c.requires l.invariant m }

pub overflow_add-element : goal.overflow_add-element
overflow_add-element c =
    let l = c.loop-item in
    omega (
      arith,
      element-low c.requires l.invariant
          (meeting (goal.at.overflow_add-element c).In-Some),
    )

pub loop-item-smaller : goal.loop-item-smaller
loop-item-smaller c = (meeting (goal.at.loop-item-smaller c).In-Some).less

pub loop-item-preserved : goal.loop-item-preserved
loop-item-preserved c =
    let l = c.loop-item in
    going_more c.requires l.invariant
    (meeting (goal.at.loop-item-preserved c).In-Some) c.put_element-count.auto.list c.put_element-count.ensures
