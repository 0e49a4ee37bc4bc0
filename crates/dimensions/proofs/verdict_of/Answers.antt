-- `dimensions::verdict_of` meets its contract: a page without a descriptor has no dimensions.
use mathlib.Core.Path.{◌∙◌}
use Rattle.dimensions.proofs.Bodies.{no-descriptor, descriptor}
use Rattle.dimensions.proofs.verdict_of.Goals as goal

pub verdict_of_body-requires : goal.verdict_of_body-requires
verdict_of_body-requires c = c.in-Some.ensures.inner_fine

pub returns-in_default : goal.returns-in_default
returns-in_default c = no-descriptor c.in_default.ensures

pub returns : goal.returns
returns c = c.verdict_of_body.ensures ∙ descriptor c.in-Some.ensures
