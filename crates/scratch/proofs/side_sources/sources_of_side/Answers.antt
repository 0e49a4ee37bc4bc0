-- `scratch::side_sources::sources_of_side` meets its contract: the stream is walked, its size is told, and the numbers are enough for that size.
use mathlib.Core.Path.{sym}
use native.Mathlib.Omega.{arith}
use Rattle.scratch.proofs.Arrays.{few-of, many-of}
use Rattle.scratch.proofs.side_sources.sources_of_side.Goals as goal

pub needs_few-requires : goal.needs_few-requires
needs_few-requires c = sym c.walk-walked.ensures

pub sources_by-requires : goal.sources_by-requires
sources_by-requires c = record { sized = few-of c.if-needs_few.true c.needs_few.ensures; size = omega arith }

pub sources_by-requires-2 : goal.sources_by-requires-2
sources_by-requires-2 c = record { sized = many-of c.if-needs_few.false c.needs_few.ensures; size = omega arith }
