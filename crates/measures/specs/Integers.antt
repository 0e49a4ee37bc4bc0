-- The integer that the octets of a value are. X.209, 8: "two's complement", and the fewest octets: the first nine bits are not all alike. W-210: "at
-- most four octets and shortest".
use Rattle.std.specs.Prelude.{ℕ, ◌+◌, ◌*◌, ◌-◌, ◌/◌, ◌^◌, Bool, cond, true, false, not, ◌&&◌, List, [], ◌∷◌, leb, length, Option, Some, None}
use Rattle.headers.specs.Head.{is_in, big_endian}
use Rattle.measures.specs.declared.Integer.{Integer}

-- the first nine bits of two octets
abbrev pub nine_bits : (x y : ℕ) → ℕ
nine_bits x y = x * 2 + y / 128

-- one octet, or more of which the first nine bits are neither all zeros nor all ones
unfoldable pub shortest : List ℕ → Bool
shortest [] = false
shortest (x ∷ []) = true
shortest (x ∷ y ∷ others) = not (is_in (nine_bits x y) (0 ∷ 511 ∷ []))

-- "at most four octets and shortest"
unfoldable pub is_integer : List ℕ → Bool
is_integer octets = leb (length octets) 4 && shortest octets

-- the first bit of two's complement tells a number under 0
unfoldable pub is_negative : List ℕ → Bool
is_negative [] = false
is_negative (x ∷ others) = leb 0x80 x

-- how far from 0: "two's complement", so the first bit counts against
unfoldable pub distance_of : List ℕ → ℕ
distance_of octets = cond (is_negative octets) (256 ^ length octets - big_endian octets) (big_endian octets)

-- the integer that octets are, if they are one
unfoldable pub integer_of : List ℕ → Option Integer
integer_of octets = cond (is_integer octets) (Some (record { negative = is_negative octets; distance = distance_of octets })) None
