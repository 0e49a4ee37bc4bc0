-- `rows::links_begin` meets its contract: the same mask.
use mathlib.Core.Path.{refl}
use native.Mathlib.Omega.{arith}
use Rattle.rows.proofs.Parts.{links-inside}
use Rattle.rows.specs.Index.{links_begin}
use Rattle.rows.proofs.links_begin.Goals as goal

pub returns : goal.returns
unfolding links_begin
returns c = (refl, omega (arith, c.requires, links-inside c.args.size))
