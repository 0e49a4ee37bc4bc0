-- `headers::head_at` meets its contract: a usual item passes each test of `head_at`, and `read_head` answers for the rest.
use Prim.Native.Nat.{◌+◌, ◌≤◌}
use borrow.Author.Tests.{lt-ltb, le-leb, ne_eqb}
use native.Mathlib.Omega.{arith}
use Rattle.headers.specs.Head.{octet_at, definite_at, by_first, length_at, item_at, head_at}
use Rattle.headers.proofs.head_at.Goals as goal

pub returns-then-is_usual : goal.returns-then-is_usual
unfolding head_at item_at length_at by_first definite_at
returns-then-is_usual c =
    let a = c.args in
    let u = c.is_usual.ensures c.if-is_usual.true in
    let i = lt-ltb _ _ c.if-next-limit.true in
    let w : a.at + 1 + 1 + octet_at a.s.now (a.at + 1) ≤ a.limit = omega arith in
    let r = ne_eqb a.room 0 (λ e. omega arith) in
    simp (
      ne_eqb _ _ u.3.0,
      r,
      ne_eqb _ _ u.3.1,
      u.3.2,
      i,
      lt-ltb _ _ u.2,
      le-leb _ _ w,
      u.3.3,
    )
