-- `contents::count_after_two` meets its contract: what is met decides.
use mathlib.Core.Path.{refl}
use Rattle.contents.specs.Opening.{goes_on}
use Rattle.contents.proofs.count_after_two.Goals as goal

pub returns-in-Some : goal.returns-in-Some
returns-in-Some c = goes_on _ _ refl c.in-Some.ensures
