-- `end_of`: half of what is stored is the bound, and the rest the mark.
use mathlib.Core.Path.{◌≡◌}
use Prim.Native.Nat.{◌+◌, ◌*◌, ◌/◌, ◌%◌}
use native.Mathlib.Omega.{arith}
use Rattle.engine.proofs.ends.end_of.Goals as goal

pub returns-then-marked : goal.returns-then-marked
returns-then-marked c =
    let n = c.args.bound in
    let h : (n * 2 + 1) / 2 ≡ n = omega arith in
    let m : (n * 2 + 1) % 2 ≡ 1 = omega arith in
    rw (h, m, c.if-marked.true)

pub returns : goal.returns
returns c =
    let n = c.args.bound in
    let h : n * 2 / 2 ≡ n = omega arith in
    let m : n * 2 % 2 ≡ 0 = omega arith in
    rw (h, m, c.if-marked.false)
