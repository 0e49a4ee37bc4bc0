-- `characters::tables::pair_of` meets its contract: what is a pair has an accent.
use native.Mathlib.Omega.{arith}
use Rattle.characters.proofs.Rules.{accent-of}
use Rattle.characters.proofs.tables.pair_of.Goals as goal

pub combining_of-requires : goal.combining_of-requires
combining_of-requires c = accent-of 0 c.args.a c.args.b (λ z. omega (arith, c.composed_of.ensures, c.in-1.is))
