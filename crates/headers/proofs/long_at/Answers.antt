-- `headers::long_at` meets its contract: its test is that of `long_at`, turned round so that nothing overflows.
use Prim.Native.Nat.{◌+◌, ◌≤◌, ◌<◌}
use borrow.Author.Tests.{le-leb, lt-leb}
use native.Mathlib.Omega.{arith}
use Rattle.headers.specs.Head.{long_at}
use Rattle.headers.proofs.long_at.Goals as goal

pub returns-then-limit-first : goal.returns-then-limit-first
unfolding long_at
returns-then-limit-first c =
    let a = c.args in
    let h : a.limit < a.from + 1 + a.k = omega arith in
    simp (lt-leb _ _ h)

pub returns : goal.returns
unfolding long_at
returns c =
    let a = c.args in
    let h : a.from + 1 + a.k ≤ a.limit = omega arith in
    simp (le-leb _ _ h, c.definite_at.ensures, c.big_endian.ensures.0)
