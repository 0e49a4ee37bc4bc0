-- `headers::passed_head` meets its contract: what is not refused is what the octets say, and `read_head` answers for the rest.
use mathlib.Core.Path.{◌≡◌, sym, ◌∙◌}
use Prim.Native.Nat.{◌+◌, ◌<◌}
use native.Mathlib.Omega.{arith}
use borrow.Author.Tests.{ne_eqb}
use Rattle.headers.specs.Head.{number_bits, octet_at, by_first, head_at}
use Rattle.headers.specs.Passed.{Passed}
use Rattle.headers.proofs.Passed.{passed-mark, passed-decided, passed-short, passed-open}
use Rattle.headers.proofs.passed_head.Goals as goal
use Rattle.headers.proofs.passed_head.Goals.{Then-octet-ne31}

pub returns-then-octet-eq0 : goal.returns-then-octet-eq0
returns-then-octet-eq0 c =
    let a = c.args in
    sym (passed-mark a.s.now a.at a.limit a.marked a.room c.if-octet-eq0.true c.requires.2)

-- where the type field is one octet, the octet after it decides
decided : (c : Then-octet-ne31) →
    let a = c.args in
    let s = a.s.now in
    let by = by_first s (octet_at s a.at) a.at (a.at + 1) (octet_at s (a.at + 1)) a.limit in
    (head_at s a.at a.limit a.marked a.room ≡ by) × (a.at + 1 < a.limit) × Passed by
decided c =
    let a = c.args in
    passed-decided a.s.now a.at a.limit a.marked a.room c.requires.2 c.if-octet-eq0.false c.if-octet-ne31.true

pub bounds-s-next : goal.bounds-s-next
bounds-s-next c = omega (arith, (decided (goal.at.bounds-s-next c).Then-octet-ne31).1)

pub returns-then-len-lt128 : goal.returns-then-len-lt128
returns-then-len-lt128 c =
    let a = c.args in
    let s = a.s.now in
    let (e, l, q) = decided (goal.at.returns-then-len-lt128 c).Then-octet-ne31 in
    let one = ne_eqb (number_bits (octet_at s a.at)) 31 c.if-octet-ne31.true in
    let f = (passed-short s (octet_at s a.at) a.at (a.at + 1) a.limit _ c.if-len-lt128.true q).0 in
    sym (e ∙ f ∙ rw one)

pub returns-then-len : goal.returns-then-len
returns-then-len c =
    let a = c.args in
    let s = a.s.now in
    let (e, l, q) = decided (goal.at.returns-then-len c).Then-octet-ne31 in
    let one = ne_eqb (number_bits (octet_at s a.at)) 31 c.if-octet-ne31.true in
    let f = passed-open s (octet_at s a.at) a.at (a.at + 1) a.limit _ c.if-len.true q in
    sym (e ∙ f ∙ rw one)
