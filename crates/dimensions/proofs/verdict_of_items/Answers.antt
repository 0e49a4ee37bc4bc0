-- `dimensions::verdict_of_items` meets its contract: the first two items, and whether there are more.
use mathlib.Core.Path.{ap, ◌∙◌}
use Rattle.std.proofs.lemmas.Slice.{between_is}
use Rattle.measures.specs.Integers.{integer_of}
use Rattle.dimensions.proofs.Items.{Two, not-two, two_items, one-other, two-other, both-80}
use Rattle.dimensions.proofs.verdict_of_items.Goals as goal
use Rattle.dimensions.proofs.verdict_of_items.Goals.{Else-o-ne2}

pub opening_of-o-requires : goal.opening_of-o-requires
opening_of-o-requires c = c.requires

pub returns-then-o-ne2 : goal.returns-then-o-ne2
returns-then-o-ne2 c = not-two c.opening_of-o.ensures c.if-o-ne2.true

pub returns-then-one-ne-FIXED : goal.returns-then-one-ne-FIXED
returns-then-one-ne-FIXED c = one-other (two_items c.opening_of-o.ensures c.if-o-ne2.false) c.if-one-ne-FIXED.true

pub returns-then-two-ne-FIXED : goal.returns-then-two-ne-FIXED
returns-then-two-ne-FIXED c =
    two-other (two_items c.opening_of-o.ensures c.if-o-ne2.false) c.if-one-ne-FIXED.false c.if-two-ne-FIXED.true

-- two items
two : (c : Else-o-ne2) → Two c.args.s.now c.args.r c.opening_of-o.result
two c = two_items c.opening_of-o.ensures c.if-o-ne2.false

pub slice_bounds-integer_of-count : goal.slice_bounds-integer_of-count
slice_bounds-integer_of-count c = (two (goal.at.slice_bounds-integer_of-count c).Else-o-ne2).one_met.value_order

pub slice_bounds-integer_of-start : goal.slice_bounds-integer_of-start
slice_bounds-integer_of-start c = (two (goal.at.slice_bounds-integer_of-start c).Else-o-ne2).one_met.value_order

pub slice_bounds-integer_of-end : goal.slice_bounds-integer_of-end
slice_bounds-integer_of-end c = (two (goal.at.slice_bounds-integer_of-end c).Else-o-ne2).one_met.value_inside

pub slice_bounds-integer_of-count-2 : goal.slice_bounds-integer_of-count-2
slice_bounds-integer_of-count-2 c = (two (goal.at.slice_bounds-integer_of-count-2 c).Else-o-ne2).two_met.value_order

pub slice_bounds-integer_of-start-2 : goal.slice_bounds-integer_of-start-2
slice_bounds-integer_of-start-2 c = (two (goal.at.slice_bounds-integer_of-start-2 c).Else-o-ne2).two_met.value_order

pub slice_bounds-integer_of-end-2 : goal.slice_bounds-integer_of-end-2
slice_bounds-integer_of-end-2 c = (two (goal.at.slice_bounds-integer_of-end-2 c).Else-o-ne2).two_met.value_inside

pub returns : goal.returns
returns c =
    let s = c.args.s.now in
    let o = c.opening_of-o.result in
    let h = c.integer_of-h.ensures ∙ ap integer_of (between_is s o.one.first o.one.past) in
    let v = c.integer_of-v.ensures ∙ ap integer_of (between_is s o.two.first o.two.past) in
    c.verdict_of_two.ensures ∙ rw (h, v) (both-80 (two (goal.at.returns c).Else-o-ne2) c.if-one-ne-FIXED.false c.if-two-ne-FIXED.false)
