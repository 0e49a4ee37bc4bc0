-- `in_order::order_judged` meets its contract: what the pass finds is the fault, and its row has its place.
use mathlib.Core.Path.{◌∙◌}
use Rattle.runs.proofs.Laws.{stream-within}
use Rattle.answers.proofs.Placing.{none_found, fault-found}
use Rattle.answers.proofs.in_order.order_judged.Goals as goal

pub fault_in-requires : goal.fault_in-requires
fault_in-requires c = record { letter_rows = (c.args.edition, c.requires.letter_rows); filed = c.requires.filed }

pub out_of_order-requires : goal.out_of_order-requires
out_of_order-requires c =
    (c.requires.letter_rows.holds.identifiers.in_table, stream-within c.args.stream.now _ c.requires.by_index.0 c.requires.by_index.1)

pub returns-in-None : goal.returns-in-None
returns-in-None c =
    let fault-in = c.fault_in in
    none_found c.requires.letter_rows c.requires.by_index.1 c.args.class fault-in.result fault-in.ensures c.in-None.is

pub returns-in-Some : goal.returns-in-Some
returns-in-Some c =
    let fault-in = c.fault_in in
    c.out_of_order.ensures
    ∙ fault-found c.requires.letter_rows c.requires.by_index.1 c.args.class fault-in.result c.in-Some.element fault-in.ensures c.in-Some.is
