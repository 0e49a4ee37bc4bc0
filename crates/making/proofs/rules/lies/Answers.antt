-- `making::rules::lies` meets its contract.
use native.Mathlib.Omega.{arith}
use borrow.Author.Tests.{lt-leb, le-leb}
use Prim.Native.Nat.{◌<◌, ◌≤◌}
use Rattle.making.proofs.rules.lies.Goals as goal

pub returns-then-part : goal.returns-then-part
returns-then-part c =
    let part = c.args.part in
    let l : part.first ≤ part.past = omega arith in
    rw (le-leb part.first part.past l)

pub returns : goal.returns
returns c =
    let part = c.args.part in
    let l : part.past < part.first = omega arith in
    rw (lt-leb part.first part.past l)
