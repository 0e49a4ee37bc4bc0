-- `normal::put_digits` meets its contract: the last of the digits that are left is written, and those above it are left.
use mathlib.Core.Path.{sym, ◌∙◌}
use native.Mathlib.Omega.{arith}
use Rattle.normal.proofs.Lengths.{put-digit, put_none}
use Rattle.normal.proofs.put_digits.Goals as goal

pub loop-i-preserved : goal.loop-i-preserved
loop-i-preserved c =
    let l = c.loop-i in
    l.invariant ∙ put-digit l.out c.args.at l.i l.left (omega arith)

pub returns : goal.returns
returns c =
    let l = c.loop-i in
    put_none l.out c.args.at l.i l.left (omega arith) ∙ sym l.invariant
