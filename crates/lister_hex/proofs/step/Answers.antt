-- `lister_hex::step` meets its contract: it is the definition, case by case.
use Rattle.lister_hex.specs.Blocks.{on_byte}
use Rattle.lister_hex.proofs.step.Goals as goal

pub returns-in-Pairs : goal.returns-in-Pairs
unfolding on_byte
returns-in-Pairs c = rw (c.in-Pairs.is, c.read_first.ensures)

pub returns-in-Half : goal.returns-in-Half
unfolding on_byte
returns-in-Half c = rw c.in-Half.is c.read_second.ensures

pub returns-in-Stopped : goal.returns-in-Stopped
unfolding on_byte
returns-in-Stopped c = rw c.in-Stopped.is
