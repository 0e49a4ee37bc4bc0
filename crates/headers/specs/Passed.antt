-- What the code asks of a header that it reads again: what stands there was not refused.
use Rattle.headers.specs.declared.Head.{Head}
use Rattle.headers.specs.declared.Head.TheVariants.{Item, ClosingMark, Refusal}

-- what stands there is not refused
abbrev pub Passed : Head → Type 0
Passed (Item h) = Unit {0}
Passed ClosingMark = Unit {0}
Passed (Refusal n place) = ⊥
