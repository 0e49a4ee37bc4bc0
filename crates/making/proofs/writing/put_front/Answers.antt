-- `making::writing::put_front` meets its contract: nine octets.
use mathlib.Core.Path.{◌∙◌}
use lib.ListN.{length-set}
use Rattle.making.proofs.Putting.{puts_then, put_one}
use Rattle.making.proofs.writing.put_front.Goals as goal

pub shape_of-out : goal.shape_of-out
shape_of-out c = simp length-set (c.put_four-second.auto.out ∙ c.put_four-first.auto.out)

pub returns : goal.returns
returns c = puts_then c.put_four-first.ensures (puts_then c.put_four-second.ensures (put_one _ _ _))
