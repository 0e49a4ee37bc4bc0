-- `read_input` meets its contract. The loop's invariant: reading stands where the blocks so far lead, and they are the first of the reader's bytes.
-- The measure is the count of turns.
use Rattle.hexlister.proofs.Inputs.{HeardFrom}
use Rattle.hexlister.proofs.read_input.Given as goal

abbrev pub invariant-loop-turns : goal.invariant-loop-turns
invariant-loop-turns g l = HeardFrom (g.R.Read.remaining l.initial.input) (g.R.Read.remaining l.input) l.initial.octets l.state l.octets

abbrev pub decreases-loop-turns : goal.decreases-loop-turns
decreases-loop-turns g l = l.turns
