-- `rows::chains::find` meets its contract. The loop's invariant: the row at hand is of the bucket, and no row from there on has what is asked.
-- The measure is the link, which falls with each turn.
use lib.ListN.{length}
use Rattle.names.specs.Asked.{spelling}
use Rattle.rows.proofs.ChainSearch.{Passed}
use Rattle.rows.proofs.chains.find.Given as goal

abbrev pub invariant-loop-link : goal.invariant-loop-link
invariant-loop-link l = Passed l.s l.rows l.column (length l.head) l.n l.space (spelling l.asked) l.link

abbrev pub decreases-loop-link : goal.decreases-loop-link
decreases-loop-link l = l.link
