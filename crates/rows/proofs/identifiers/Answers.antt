-- `rows::identifiers` meets its contract: the front is the first half.
use Rattle.rows.proofs.Halves.{first-size, first-half}
use Rattle.rows.proofs.identifiers.Goals as goal

pub slice_bounds-result-end : goal.slice_bounds-result-end
slice_bounds-result-end c = first-size c.args.index.now c.half_of-half.ensures

pub returns : goal.returns
returns c = first-half c.args.index.now c.half_of-half.ensures
