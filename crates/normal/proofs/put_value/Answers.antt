-- `normal::put_value` meets its contract: what is copied is what the output then has from `begin` on.
use mathlib.Core.Path.{◌∙◌}
use native.Mathlib.Omega.{arith}
use lib.Seq.{slice, length-slice}
use Rattle.laws.proofs.Parts.{part-set, part-slice}
use Rattle.normal.proofs.put_value.Goals as goal

pub returns : goal.returns
returns c =
    let a = c.args in
    let value = slice a.start a.bound a.s.now in
    let n = length-slice a.start a.bound a.s.now (omega arith) in
    let copied = c.copy_from_slice.ensures.after ∙ part-slice a.start a.bound a.s.now (omega arith) in
    record { to = omega (arith, n); written = part-set a.begin _ a.out.now _ value copied (omega (arith, n)) (omega (arith, n)) }
