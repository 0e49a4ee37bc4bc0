-- A tag of a value, a number below 64, by which two values are told apart without comparing them. Any function would do: no answer depends
-- on it, only how soon values are known to differ.
use Rattle.std.specs.Prelude.{ℕ, ◌+◌, ◌*◌, ◌%◌, List, [], ◌∷◌}

abbrev pub tags : ℕ
tags = 64

-- the tag t, after these digits: as if they were a number's
unfoldable pub tag_from : (t : ℕ) → List ℕ → ℕ
tag_from t [] = t
tag_from t (digit ∷ digits) = tag_from ((10 * t + digit) % tags) digits

-- The tag of no digits is that of a 0, the octet 48, so leading zeros do not count, and the portions 0 to 63 have as many tags.
abbrev pub tag : List ℕ → ℕ
tag value = tag_from 16 value
