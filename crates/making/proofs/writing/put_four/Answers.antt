-- `making::writing::put_four` meets its contract: four octets are copied.
use native.Mathlib.Omega.{arith}
use mathlib.Core.Path.{refl}
use Rattle.laws.proofs.Parts.{part-set}
use Rattle.making.proofs.writing.put_four.Goals as goal

pub returns : goal.returns
returns c = record { to = refl; written = part-set c.args.at _ c.args.out.now _ _ c.copy_from_slice.ensures.after (omega arith) (omega arith) }
