-- `text_lines::put_line` meets its contract: the five numbers are set in their place.
use Prim.Native.Nat.{◌*◌}
use native.Mathlib.Omega.{arith}
use Rattle.laws.proofs.Parts.{part-set}
use Rattle.text_lines.proofs.put_line.Goals as goal

pub returns : goal.returns
returns c =
    let a = c.args in
    part-set (5 * a.k) _ a.lines.now _ _ c.copy_from_slice.ensures.after (omega arith) (omega arith)
