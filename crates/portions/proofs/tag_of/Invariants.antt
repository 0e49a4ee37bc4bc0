-- `portions::tag_of` meets its contract: the tag so far, after what is left, is the tag of the whole.
use mathlib.Core.Path.{◌≡◌}
use Prim.Native.Nat.{◌<◌}
use lib.ListN.{drop}
use Rattle.portions.specs.Tags.{tags, tag, tag_from}
use Rattle.portions.proofs.tag_of.Given as goal

abbrev pub invariant-loop-digit : goal.invariant-loop-digit
invariant-loop-digit l = (l.r < tags) × (tag l.digit-items ≡ tag_from l.r (drop l.digit-index l.digit-items))
