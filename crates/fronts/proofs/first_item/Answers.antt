-- `fronts::first_item` meets its contract: how the walk of one item ended is told by its answer.
use mathlib.Core.Path.{sym, ◌∙◌}
use Rattle.octets.specs.Walk.{count}
use Rattle.octets.proofs.Turns.{answer-ends, answer-stops}
use Rattle.fronts.specs.First.{walk_first}
use Rattle.fronts.proofs.first_item.Goals as goal

pub inside_first-requires : goal.inside_first-requires
inside_first-requires c =
    let w = walk_first c.args.s.now in (
      c.requires,
      answer-ends (count w.items) w.how _ _ (sym c.walk_one.ensures ∙ c.in-Ok.is),
    )

pub returns-in-Err : goal.returns-in-Err
returns-in-Err c =
    let w = walk_first c.args.s.now in
    answer-stops (count w.items) w.how _ _ _ (sym c.walk_one.ensures ∙ c.in-Err.is)
