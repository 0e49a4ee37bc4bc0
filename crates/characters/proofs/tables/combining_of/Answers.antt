-- `characters::tables::combining_of` meets its contract: the table has the accents.
use native.Mathlib.Omega.{arith}
use mathlib.Core.Path.{refl}
use Rattle.characters.proofs.Rules.{accent-at}
use Rattle.characters.proofs.tables.combining_of.Goals as goal

pub returns : goal.returns
returns c =
    let a = c.args in
    accent-at a.a _ (omega arith) (omega arith) refl
