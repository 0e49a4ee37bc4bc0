-- `making::writing::put_header` meets its contract: an octet, and then the length octets.
use mathlib.Core.Path.{refl, ◌∙◌}
use lib.ListN.{length-set}
use native.Mathlib.Omega.{arith}
use Rattle.making.proofs.Putting.{puts_then, put_one}
use Rattle.making.proofs.writing.put_header.Goals as goal

pub put_length-requires : goal.put_length-requires
put_length-requires c = simp length-set (omega (arith, c.requires.1))

pub shape_of-out : goal.shape_of-out
shape_of-out c = c.put_length.auto.out ∙ simp length-set refl

pub returns : goal.returns
returns c = puts_then (put_one _ _ _) c.put_length.ensures
