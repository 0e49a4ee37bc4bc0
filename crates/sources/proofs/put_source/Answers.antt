-- `sources::put_source` meets its contract: the three numbers are set in their place.
use native.Mathlib.Omega.{arith}
use Rattle.laws.proofs.Parts.{part-set}
use Rattle.sources.proofs.put_source.Goals as goal

pub returns : goal.returns
returns c =
    let a = c.args in
    part-set a.at _ a.list.now _ _ c.copy_from_slice.ensures.after (omega arith) (omega arith)
