-- `page::append` meets its contract: the line is copied to its place.
use native.Mathlib.Omega.{arith}
use mathlib.Core.Path.{refl}
use Rattle.laws.proofs.Parts.{part-set}
use Rattle.hexlister.proofs.page.append.Goals as goal

pub returns : goal.returns
returns c =
    let a = c.args in
    record { past = refl; stored = part-set a.at _ a.page.now _ a.line.now c.copy_from_slice.ensures.after (omega arith) (omega arith); within = c.requires.0 }
