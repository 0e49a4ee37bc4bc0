-- `reading::list_side` meets its contract: the elements are taken in turn.
use Rattle.reading.proofs.Turning.{turning-all, turning-none, turning-more, room-for-element}
use Rattle.reading.proofs.list_side.Goals as goal

pub loop-element-init : goal.loop-element-init
loop-element-init c =
    let a = c.args in
    turning-all a.side a.s.now a.rows.now a.n a.flat.now c.requires.n_in_bounds

pub list_element-count-requires : goal.list_element-count-requires
list_element-count-requires c =
    let less = c.loop-element-test.true in
    record { letter_rows = c.requires.letter_rows; filed = c.requires.filed; element_lt_n = less; room = room-for-element c.loop-element.invariant less }

pub loop-element-preserved : goal.loop-element-preserved
loop-element-preserved c =
    turning-more c.loop-element.invariant c.loop-element-test.true c.list_element-count.ensures
    c.list_element-count.auto.flat

pub shape_of-flat : goal.shape_of-flat
shape_of-flat c = c.loop-element.invariant.kept

pub returns : goal.returns
returns c = turning-none c.loop-element.invariant c.loop-element-test.false
