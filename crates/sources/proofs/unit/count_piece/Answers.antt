-- `sources::unit::count_piece` meets its contract: by whether it has octets.
use mathlib.Core.Path.{ap, sym}
use lib.ListN.{length}
use Rattle.sources.proofs.Holders.{one_place, no_place}
use Rattle.sources.proofs.unit.count_piece.Goals as goal

pub returns-then-first-past : goal.returns-then-first-past
returns-then-first-past c = sym (ap length (one_place _ _ c.if-first-past.true))

pub returns : goal.returns
returns c = sym (ap length (no_place _ _ c.if-first-past.false))
