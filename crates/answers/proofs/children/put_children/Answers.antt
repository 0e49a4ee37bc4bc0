-- `answers::children::put_children` meets its contract: what is put, and then those that are left, is all.
use Rattle.answers.proofs.Tabling.{putting-all, putting-room, putting-hit, putting-miss, putting-none}
use Rattle.answers.proofs.children.put_children.Goals as goal
use Rattle.answers.proofs.children.put_children.Goals.{then-parent-row, else-parent-row}

pub loop-j-init : goal.loop-j-init
loop-j-init c =
    let a = c.args in
    putting-all a.table.now a.count a.row a.list.now c.requires.count_in_bounds

pub bounds-list-found : goal.bounds-list-found
bounds-list-found c = putting-room c.loop-j.invariant c.loop-j-test.true c.if-parent-row.true

pub loop-j-preserved : goal.loop-j-preserved
loop-j-preserved c =
    elim c.if-parent-row.branch [
      | then-parent-row w ↦ rw (w.list-is, w.found-is) (putting-hit c.loop-j.invariant c.loop-j-test.true w.if-parent-row.true)
      | else-parent-row w ↦ rw (w.list-is, w.found-is) (putting-miss c.loop-j.invariant c.loop-j-test.true w.if-parent-row.false)
    ]

pub shape_of-list : goal.shape_of-list
shape_of-list c = c.loop-j.invariant.kept

pub returns : goal.returns
returns c = putting-none c.loop-j.invariant c.loop-j-test.false c.requires.count_in_bounds
