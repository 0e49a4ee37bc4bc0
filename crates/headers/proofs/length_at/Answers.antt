-- `headers::length_at` meets its contract: each arm of the match on the first length octet is a case of `by_first`.
use borrow.Author.Tests.{lt-ltb, le-ltb, ne_eqb}
use Rattle.headers.specs.Head.{length_at, by_first}
use Rattle.headers.proofs.length_at.Goals as goal

pub returns-then-limit-from : goal.returns-then-limit-from
unfolding length_at
returns-then-limit-from c = simp (le-ltb _ _ c.if-limit-from.true)

pub returns-in-128 : goal.returns-in-128
unfolding length_at by_first
returns-in-128 c = simp (lt-ltb _ _ c.if-limit-from.false, c.in-128.is, c.indefinite_at.ensures)

pub returns-in-0-to-127 : goal.returns-in-0-to-127
unfolding length_at by_first
returns-in-0-to-127 c =
    let i = lt-ltb _ _ c.if-limit-from.false in
    let h = lt-ltb _ _ c.in-0-to-127.if-first-lt128-own.true in
    simp (i, h, c.definite_at.ensures)

pub returns-in-129-to-132 : goal.returns-in-129-to-132
unfolding length_at by_first
returns-in-129-to-132 c =
    let i = lt-ltb _ _ c.if-limit-from.false in
    let h = le-ltb _ _ c.in-129-to-132.if-first-lt128-own.false in
    let k = lt-ltb _ _ c.in-129-to-132.if-first-lt133-own.true in
    let ne = ne_eqb _ _ c.in-129-to-132.in_default-own.rest.1 in
    simp (i, h, ne, k, c.long_at.ensures)

pub returns-in-133-to-255 : goal.returns-in-133-to-255
unfolding length_at by_first
returns-in-133-to-255 c =
    let i = lt-ltb _ _ c.if-limit-from.false in
    let h = le-ltb _ _ c.in-133-to-255.if-first-lt128-own.false in
    let k = le-ltb _ _ c.in-133-to-255.if-first-lt133-own.false in
    let ne = ne_eqb _ _ c.in-133-to-255.in_default-own.rest.1 in
    simp (i, h, ne, k)
