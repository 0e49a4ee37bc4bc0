use borrow.Author.Tests.{lt-ltb, le-ltb}
use Rattle.headers.specs.Head.{form_allowed}
use Rattle.headers.proofs.types.form_allowed.Goals as goal

pub returns-then-octet-lt64 : goal.returns-then-octet-lt64
unfolding form_allowed
returns-then-octet-lt64 c = simp (c.permitted.ensures, lt-ltb _ _ c.if-octet-lt64.true)

pub returns : goal.returns
unfolding form_allowed
returns c = simp (le-ltb _ _ c.if-octet-lt64.false)
