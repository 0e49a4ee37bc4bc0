-- `characters::steps::put_plain` meets its contract: the run is copied to its place.
use native.Mathlib.Omega.{arith}
use mathlib.Core.Path.{◌∙◌}
use Rattle.laws.proofs.Parts.{part-set}
use Rattle.characters.proofs.Going.{run-copied, run_ends}
use Rattle.characters.proofs.steps.put_plain.Goals as goal

pub slice_bounds-copy_from_slice-end-2 : goal.slice_bounds-copy_from_slice-end-2
slice_bounds-copy_from_slice-end-2 c = run_ends c.args.octets.now c.args.at c.plain_end-end.result c.plain_end-end.ensures c.requires.0

pub returns-clause-out_after : goal.returns-clause-out_after
returns-clause-out_after c =
    let a = c.args in
    let copied = c.copy_from_slice.ensures.after ∙ run-copied a.octets.now a.at c.plain_end-end.result c.plain_end-end.ensures in
    part-set a.here _ a.out.now _ _ copied (omega arith) c.requires.1
