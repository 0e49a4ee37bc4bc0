-- `odif::in_order::order` meets its contract: it is what the question's work told, which is the answer.
use Rattle.answers.proofs.Working.{order-left}
use Rattle.odif.proofs.in_order.order.Goals as goal

pub ask-told-requires : goal.ask-told-requires
ask-told-requires c = tt

pub returns : goal.returns
returns c = rw c.from.ensures (order-left c.ask-told.ensures)
