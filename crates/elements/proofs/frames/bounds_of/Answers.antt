-- `elements::frames::bounds_of` meets its contract: by whether the item was found.
use mathlib.Core.Path.{subst}
use Rattle.contents.specs.Opening.{FoundIn}
use Rattle.elements.proofs.Bounding.{held-bounding, lacked-bounding}
use Rattle.elements.proofs.frames.bounds_of.Goals as goal

pub returns-in-Some : goal.returns-in-Some
returns-in-Some c = λ s r octet found. rw c.span_of.ensures (held-bounding (subst (FoundIn s r octet) c.in-Some.is found))

pub returns-in-None : goal.returns-in-None
returns-in-None c = λ s r octet found. lacked-bounding (subst (FoundIn s r octet) c.in-None.is found)
