-- `contents::opening_of` meets its contract: what is met at the start decides.
use Rattle.contents.proofs.opening_of.Goals as goal

pub returns-in-Some : goal.returns-in-Some
returns-in-Some c = c.opening_after.ensures c.args.r (rw c.part_of.ensures c.in-Some.ensures)
