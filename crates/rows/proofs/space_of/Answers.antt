-- `rows::space_of` meets its contract: the code's table is the definition's, and past it both give 0.
use mathlib.Core.Path.{sym}
use lib.ListN.{get_or-eq_default}
use Rattle.rows.specs.Rows.{spaces, name_space_of}
use Rattle.rows.proofs.space_of.Goals as goal

pub returns-in-Some : goal.returns-in-Some
unfolding name_space_of
returns-in-Some c = c.in-Some.ensures.lookup.3.1 0

pub returns-in-None : goal.returns-in-None
unfolding name_space_of
returns-in-None c = sym (get_or-eq_default spaces 0 {n = c.args.kind} c.in-None.ensures.lookup.3)
