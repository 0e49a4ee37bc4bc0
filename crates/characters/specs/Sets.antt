-- The three sets: 0 is ISO 6937, 1 is T.61, 2 is ISO 8859-1. What an octet alone is in each, as a code point; 0 where it is none.
-- Not said here: C1 to CF of the first two, which are accents and stand before a letter (`Pairs`).
use Rattle.std.specs.Prelude.{ℕ, ◌-◌, Bool, cond, not, ◌&&◌, ◌||◌, List, [], ◌∷◌, leb, eqb, get_or, Option, Some, None}
use Rattle.characters.specs.declared.Set.{Set}
use Rattle.characters.specs.declared.Set.TheVariants.{Iso6937, T61, Latin1}

abbrev pub iso6937 : ℕ
iso6937 = 0

abbrev pub t61 : ℕ
t61 = 1

abbrev pub latin1 : ℕ
latin1 = 2

-- a set's number
abbrev pub number_of : Set → ℕ
number_of Iso6937 = iso6937
number_of T61 = t61
number_of Latin1 = latin1

-- any other number is taken as ISO 6937
abbrev pub set_of : ℕ → ℕ
set_of n = cond (leb n 2) n iso6937

-- printing ASCII, tab, line feed, form feed
abbrev pub is_own : ℕ → Bool
is_own o = cond (leb 0x20 o) (leb o 0x7E) (eqb o 0x0A || (eqb o 0x09 || eqb o 0x0C))

abbrev pub dollar : ℕ
dollar = 0x24

-- T.61 has the currency sign in the place of the dollar
abbrev pub is_currency : ℕ → ℕ → Bool
is_currency s o = eqb s t61 && eqb o dollar

-- an octet that is its own character in all three sets
unfoldable pub is_plain : ℕ → Bool
is_plain o = not (eqb o dollar) && is_own o

-- up to 9F: an octet is itself, or nothing; a carriage return is a character only before a line feed (`Pairs`)
unfoldable pub left_point : ℕ → ℕ → ℕ
left_point s o = cond (is_currency s o) 0xA4 (cond (is_own o) o 0)

-- the octets A0 to FF of ISO 6937 and T.61, as of 1983 and 1992 together; 0 where there is no character, and for C1 to CF
unfoldable pub supplement : List ℕ
supplement =
    -- no-break space ¡ ¢ £ $ ¥ # § ¤ ‘ “ « ← ↑ → ↓
    0xA0 ∷ 0xA1 ∷ 0xA2 ∷ 0xA3 ∷ 0x24 ∷ 0xA5 ∷ 0x23 ∷ 0xA7 ∷ 0xA4 ∷ 0x2018 ∷ 0x201C ∷ 0xAB ∷ 0x2190 ∷ 0x2191 ∷ 0x2192 ∷ 0x2193
    -- ° ± ² ³ × µ ¶ · ÷ ’ ” » ¼ ½ ¾ ¿
    ∷ 0xB0 ∷ 0xB1 ∷ 0xB2 ∷ 0xB3 ∷ 0xD7 ∷ 0xB5 ∷ 0xB6 ∷ 0xB7 ∷ 0xF7 ∷ 0x2019 ∷ 0x201D ∷ 0xBB ∷ 0xBC ∷ 0xBD ∷ 0xBE ∷ 0xBF
    ∷ 0 ∷ 0 ∷ 0 ∷ 0 ∷ 0 ∷ 0 ∷ 0 ∷ 0 ∷ 0 ∷ 0 ∷ 0 ∷ 0 ∷ 0 ∷ 0 ∷ 0 ∷ 0
    -- ― ¹ ® © ™ ♪ ¬ ¦, four that are none, ⅛ ⅜ ⅝ ⅞
    ∷ 0x2015 ∷ 0xB9 ∷ 0xAE ∷ 0xA9 ∷ 0x2122 ∷ 0x266A ∷ 0xAC ∷ 0xA6 ∷ 0 ∷ 0 ∷ 0 ∷ 0 ∷ 0x215B ∷ 0x215C ∷ 0x215D ∷ 0x215E
    -- Ω Æ Đ ª Ħ, one that is none, Ĳ Ŀ Ł Ø Œ º Þ Ŧ Ŋ ŉ
    ∷ 0x3A9 ∷ 0xC6 ∷ 0x110 ∷ 0xAA ∷ 0x126 ∷ 0 ∷ 0x132 ∷ 0x13F ∷ 0x141 ∷ 0xD8 ∷ 0x152 ∷ 0xBA ∷ 0xDE ∷ 0x166 ∷ 0x14A ∷ 0x149
    -- ĸ æ đ ð ħ ı ĳ ŀ ł ø œ ß þ ŧ ŋ soft hyphen
    ∷ 0x138 ∷ 0xE6 ∷ 0x111 ∷ 0xF0 ∷ 0x127 ∷ 0x131 ∷ 0x133 ∷ 0x140 ∷ 0x142 ∷ 0xF8 ∷ 0x153 ∷ 0xDF ∷ 0xFE ∷ 0x167 ∷ 0x14B ∷ 0xAD
    ∷ []

-- from A0 on
unfoldable pub right_point : ℕ → ℕ → ℕ
right_point s o = cond (eqb s latin1) o (get_or supplement (o - 0xA0) 0)

-- an octet alone
unfoldable pub point_of : ℕ → ℕ → ℕ
point_of s o = cond (leb 0xA0 o) (right_point s o) (left_point s o)

-- a code point, where it is one
abbrev pub point_in : ℕ → Option ℕ
point_in p = cond (eqb p 0) None (Some p)
