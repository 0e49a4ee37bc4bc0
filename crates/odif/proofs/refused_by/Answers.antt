-- `odif::refused_by` meets its contract: the rules' work tells number and place.
use mathlib.Core.Path.{ap, sym, ◌∙◌}
use Rattle.answers.specs.declared.Told.{Told}
use Rattle.odif.proofs.Short.{reason-told}
use Rattle.odif.proofs.refused_by.Goals as goal

pub ask-told-requires : goal.ask-told-requires
ask-told-requires c = tt

pub returns-then-told-eq0 : goal.returns-then-told-eq0
returns-then-told-eq0 c = sym (ap (λ (t : Told). t.number) c.ask-told.ensures.answered) ∙ c.if-told-eq0.true

pub returns : goal.returns
returns c = (reason-told _ _ c.ask-told.ensures.answered, c.if-told-eq0.false)
