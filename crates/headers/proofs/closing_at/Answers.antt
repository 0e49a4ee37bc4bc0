-- `octets::closing` meets its contract: at each return the tests that led there say which case of `closing_at` holds.
use borrow.Author.Tests.{le-ltb, lt-ltb, eq-eqb, ne_eqb}
use Rattle.headers.specs.Head.{closing_at}
use Rattle.headers.proofs.closing_at.Goals as goal

pub returns-then-s-next-eq0 : goal.returns-then-s-next-eq0
unfolding closing_at
returns-then-s-next-eq0 c = simp (c.if-marked.true, lt-ltb _ _ c.if-next-limit.true, eq-eqb _ _ c.if-s-next-eq0.true)

pub returns-then-next-limit : goal.returns-then-next-limit
unfolding closing_at
returns-then-next-limit c = simp (c.if-marked.true, lt-ltb _ _ c.if-next-limit.true, ne_eqb _ _ c.if-s-next-eq0.false)

pub returns-then-marked : goal.returns-then-marked
unfolding closing_at
returns-then-marked c = simp (c.if-marked.true, le-ltb _ _ c.if-next-limit.false)

pub returns : goal.returns
unfolding closing_at
returns c = simp c.if-marked.false
