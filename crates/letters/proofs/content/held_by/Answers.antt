-- `letters::content::held_by` meets its contract.
use Rattle.letters.proofs.content.held_by.Goals as goal

pub returns-then-holder : goal.returns-then-holder
returns-then-holder c = rw c.if-holder.true

pub returns : goal.returns
returns c = rw c.if-holder.false
