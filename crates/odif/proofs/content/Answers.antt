-- `odif::content` meets its contract: the part is what the bounds bound, and empty if they are 0 and 0.
use mathlib.Core.Path.{◌∙◌}
use native.Mathlib.Omega.{arith}
use Rattle.pieces.proofs.Putting.{part_slice}
use Rattle.odif.proofs.content.Goals as goal

pub slice_bounds-result-count : goal.slice_bounds-result-count
slice_bounds-result-count c = let f = c.locate-located.ensures.1 in omega (arith, f.order)

pub slice_bounds-result-start : goal.slice_bounds-result-start
slice_bounds-result-start c = let f = c.locate-located.ensures.1 in omega (arith, f.order)

pub slice_bounds-result-end : goal.slice_bounds-result-end
slice_bounds-result-end c = let f = c.locate-located.ensures.1 in omega (arith, f.order, f.inside)

pub returns : goal.returns
returns c =
    let f = c.locate-located.ensures.1 in
    part_slice _ _ c.args.stream.now f.order ∙ f.part
