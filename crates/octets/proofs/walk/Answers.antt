-- `octets::walk` meets its contract: refusal 1, and then the run of the whole stream.
use borrow.Author.Tests.{le-leb, lt-leb}
use Rattle.octets.specs.Walk.{walk_of}
use Rattle.octets.proofs.walk.Goals as goal

pub returns-then-s-gt-STREAM_LIMIT : goal.returns-then-s-gt-STREAM_LIMIT
unfolding walk_of
returns-then-s-gt-STREAM_LIMIT c = simp (lt-leb _ _ c.if-s-gt-STREAM_LIMIT.true)

pub returns : goal.returns
unfolding walk_of
returns c = simp (le-leb _ _ c.if-s-gt-STREAM_LIMIT.false) c.walk_run.ensures
