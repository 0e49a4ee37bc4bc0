-- `contents::gather` meets its contract. The loop's invariant: what was gathered is what stood from the start up to here.
-- The measure is what is left of the run.
use Rattle.contents.specs.Opening.{Begins}
use Rattle.contents.proofs.Gathering.{gathering-more, gathering-end}
use Rattle.contents.proofs.gather.Goals as goal
use Rattle.contents.proofs.gather.Goals.{After-part_of-p}

-- the item that is met
meeting : (c : After-part_of-p) → Begins c.args.s.now c.loop-item.cur c.part_of-p.result c.in-Some.item.rest
meeting c = rw c.part_of-p.ensures c.in-Some.ensures

pub returns : goal.returns
returns c =
    let a = c.args in
    let l = c.loop-item in
    rw c.gathered_from.ensures
    (gathering-end a.s.now a.sought a.r l.cur _ _ _ _ l.invariant c.in_default.ensures)

pub loop-item-preserved : goal.loop-item-preserved
loop-item-preserved c =
    let a = c.args in
    let l = c.loop-item in
    let p = c.part_of-p.result in
    rw (
      c.seen_with-identifier.ensures,
      c.seen_with-logical.ensures,
      c.seen_with-portions.ensures,
      c.counted_with-barred-in-Some.ensures,
      c.counted_with-barred.ensures,
    )
    (gathering-more a.s.now a.sought a.r l.cur _ _ _ _ l.invariant p _ (meeting (goal.at.loop-item-preserved c).After-part_of-p))
