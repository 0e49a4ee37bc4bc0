-- `contents::opening_after` meets its contract: what is met after the first item decides.
use mathlib.Core.Path.{refl}
use Rattle.contents.specs.Opening.{single, several}
use Rattle.contents.proofs.opening_after.Goals as goal

pub returns-in-None : goal.returns-in-None
returns-in-None c r m = single c.args.rest refl m c.in-None.ensures

pub returns-in-Some : goal.returns-in-Some
returns-in-Some c r m =
    several c.args.rest c.in-Some.item.rest m (rw c.part_of.ensures c.in-Some.ensures) c.count_after_two.ensures
