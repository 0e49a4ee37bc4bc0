-- Octets as signs, in order: a sign is one octet or two, and is shown as a character, as a letter and its accent, as a line's end, or by its number, ⟦HH⟧.
use Rattle.std.specs.Prelude.{ℕ, ◌+◌, ◌/◌, ◌%◌, Bool, cond, ◌&&◌, List, [], ◌∷◌, ◌++◌, ltb, eqb, length, get_or, Option, Some, None}
use Rattle.characters.specs.declared.Points.{Points}
use Rattle.characters.specs.declared.Points.TheVariants.{One, Two, Number}
use Rattle.characters.specs.declared.Sign.{Sign}
use Rattle.characters.specs.Utf8.{utf8s}
use Rattle.characters.specs.Sets.{set_of, point_of}
use Rattle.characters.specs.Pairs.{combining, pair_of}

-- a hexadecimal digit, with capital letters
abbrev pub hex_digit : ℕ → ℕ
hex_digit v = cond (ltb v 10) (48 + v) (55 + v)

-- an octet by its number: ⟦, two digits, ⟧
abbrev pub number_points : ℕ → List ℕ
number_points o = 0x27E6 ∷ hex_digit (o / 16) ∷ hex_digit (o % 16) ∷ 0x27E7 ∷ []

abbrev pub number_octets : ℕ → List ℕ
number_octets o = utf8s (number_points o)

-- the code points that a sign is shown as
abbrev pub points_of : Points → List ℕ
points_of (One p) = p ∷ []
points_of (Two p q) = p ∷ q ∷ []
points_of (Number o) = number_points o

abbrev pub octets_of : Points → List ℕ
octets_of x = utf8s (points_of x)

-- an octet alone: its character, or its number
unfoldable pub alone : ℕ → ℕ → Points
alone s o = cond (eqb (point_of s o) 0) (Number o) (One (point_of s o))

-- a carriage return and a line feed
abbrev pub is_line_end : ℕ → ℕ → Bool
is_line_end a b = eqb a 0x0D && eqb b 0x0A

-- an accent and its letter
abbrev pub accented : ℕ → ℕ → ℕ → Points
accented c a b = cond (eqb c 1) (Two b (combining a)) (One c)

-- and what two octets are as one sign, by the number of their pair
abbrev pub pair_in : ℕ → ℕ → ℕ → Option Points
pair_in c a b = cond (eqb c 0) None (Some (accented c a b))

abbrev pub sign : Points → ℕ → Sign
sign x n = record { points = x; wide = n }

-- the first sign of an octet and the one after it
unfoldable pub first_sign : ℕ → ℕ → ℕ → Sign
first_sign s a b =
    cond (is_line_end a b) (sign (Two a b) 2)
    (cond (eqb (pair_of s a b) 0) (sign (alone s a) 1)
    (sign (accented (pair_of s a b) a b) 2))

-- the sign at a place
unfoldable pub sign_at : ℕ → List ℕ → ℕ → Sign
sign_at s xs at =
    cond (ltb (at + 1) (length xs)) (first_sign s (get_or xs at 0) (get_or xs (at + 1) 0))
    (sign (alone s (get_or xs at 0)) 1)

-- all signs
unfoldable pub signs : ℕ → List ℕ → List Sign
signs s [] = []
signs s (a ∷ []) = sign (alone s a) 1 ∷ []
signs s (a ∷ b ∷ rest) =
    first_sign s a b ∷ cond (eqb (first_sign s a b).wide 2) (signs s rest) (signs s (b ∷ rest))

-- the UTF-8 of signs
unfoldable pub utf8_of : List Sign → List ℕ
utf8_of [] = []
utf8_of (x ∷ xs) = octets_of x.points ++ utf8_of xs

-- how many are shown by their number
abbrev pub is_number : Points → ℕ
is_number (One p) = 0
is_number (Two p q) = 0
is_number (Number o) = 1

unfoldable pub numbers_in : List Sign → ℕ
numbers_in [] = 0
numbers_in (x ∷ xs) = is_number x.points + numbers_in xs

-- the characters of octets, as UTF-8
abbrev pub text_of : ℕ → List ℕ → List ℕ
text_of s xs = utf8_of (signs (set_of s) xs)

-- how many octets are shown by their number
abbrev pub numbers_of : ℕ → List ℕ → ℕ
numbers_of s xs = numbers_in (signs (set_of s) xs)
