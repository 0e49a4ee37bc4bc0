-- `rows::readers::is_either` meets its contract: the tests are the definition's.
use mathlib.Core.Path.{◌≡◌, refl}
use mathlib.Core.Bool.{Bool, true, false, cond}
use lib.Dec.{eqb}
use borrow.Author.Tests.{eq-eqb, ne_eqb}
use Rattle.rows.proofs.readers.is_either.Goals as goal

itself : (b : Bool) → b ≡ cond b true false
itself true = refl
itself false = refl

pub returns-then-x-a : goal.returns-then-x-a
returns-then-x-a c = rw (eq-eqb _ _ c.if-x-a.true)

pub returns-else-x-a : goal.returns-else-x-a
returns-else-x-a c = let a = c.args in rw (ne_eqb _ _ c.if-x-a.false) (itself (eqb a.x a.b))
