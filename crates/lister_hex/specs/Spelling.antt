-- Octets as pairs of digits, one line of them: what the reading undoes (proofs/Spelling: `reads-back`, up to the limit, and `reads-not` past it).
use Rattle.std.specs.Prelude.{ℕ, ◌+◌, ◌/◌, ◌%◌, ◌<◌, cond, List, [], ◌∷◌, ltb}

-- numbers that are octets
abbrev pub Octets : List ℕ → Type 0
Octets [] = Unit {0}
Octets (o ∷ os) = (o < 256) × Octets os

-- the digit of a value below 16
abbrev pub digit_of : ℕ → ℕ
digit_of v = cond (ltb v 10) (48 + v) (55 + v)

-- two digits an octet, the high one first
unfoldable pub spelling : List ℕ → List ℕ
spelling [] = []
spelling (o ∷ os) = digit_of (o / 16) ∷ digit_of (o % 16) ∷ spelling os
