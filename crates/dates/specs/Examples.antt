-- Values and what they are answered with, and profiles on and off the path: from an independent reading of W-203.
use Rattle.std.specs.Prelude.{ℕ, ◌+◌, List, [], ◌∷◌, ◌++◌}
use Rattle.calendar.specs.declared.Day.{Day}

-- octets, and the number, the year, the month and the day that they are answered with
pub record Example : Type 0 where
  pub octets : List ℕ
  pub number : ℕ
  pub day : Day

abbrev pub answered : (octets : List ℕ) → (number year month day : ℕ) → Example
answered octets number year month day = record { octets = octets; number = number; day = record { year = year; month = month; day = day } }

-- ten octets: four, two and two digits with hyphens between
abbrev pub ten : (a b c d e f g h : ℕ) → List ℕ
ten a b c d e f g h =
    (0x30 + a) ∷ (0x30 + b) ∷ (0x30 + c) ∷ (0x30 + d) ∷ 0x2D ∷ (0x30 + e) ∷ (0x30 + f) ∷ 0x2D ∷ (0x30 + g) ∷ (0x30 + h) ∷ []

-- values of a date
abbrev pub values : List Example
values =
    answered (ten 1 9 9 1 0 1 3 1) 0 1991 1 31
    ∷ answered (ten 1 9 9 1 0 1 3 2) 24 0 0 0
    ∷ answered (ten 1 9 9 1 0 2 2 8) 0 1991 2 28
    ∷ answered (ten 1 9 9 1 0 2 2 9) 24 0 0 0
    ∷ answered (ten 1 9 9 1 0 3 3 1) 0 1991 3 31
    ∷ answered (ten 1 9 9 1 0 3 3 2) 24 0 0 0
    ∷ answered (ten 1 9 9 1 0 4 3 0) 0 1991 4 30
    ∷ answered (ten 1 9 9 1 0 4 3 1) 24 0 0 0
    ∷ answered (ten 1 9 9 1 0 5 3 1) 0 1991 5 31
    ∷ answered (ten 1 9 9 1 0 5 3 2) 24 0 0 0
    ∷ answered (ten 1 9 9 1 0 6 3 0) 0 1991 6 30
    ∷ answered (ten 1 9 9 1 0 6 3 1) 24 0 0 0
    ∷ answered (ten 1 9 9 1 0 7 3 1) 0 1991 7 31
    ∷ answered (ten 1 9 9 1 0 7 3 2) 24 0 0 0
    ∷ answered (ten 1 9 9 1 0 8 3 1) 0 1991 8 31
    ∷ answered (ten 1 9 9 1 0 8 3 2) 24 0 0 0
    ∷ answered (ten 1 9 9 1 0 9 3 0) 0 1991 9 30
    ∷ answered (ten 1 9 9 1 0 9 3 1) 24 0 0 0
    ∷ answered (ten 1 9 9 1 1 0 3 1) 0 1991 10 31
    ∷ answered (ten 1 9 9 1 1 0 3 2) 24 0 0 0
    ∷ answered (ten 1 9 9 1 1 1 3 0) 0 1991 11 30
    ∷ answered (ten 1 9 9 1 1 1 3 1) 24 0 0 0
    ∷ answered (ten 1 9 9 1 1 2 3 1) 0 1991 12 31
    ∷ answered (ten 1 9 9 1 1 2 3 2) 24 0 0 0
    ∷ answered (ten 1 9 0 0 0 2 2 9) 24 0 0 0
    ∷ answered (ten 2 0 0 0 0 2 2 9) 0 2000 2 29
    ∷ answered (ten 2 1 0 0 0 2 2 9) 24 0 0 0
    ∷ answered (ten 1 9 8 8 0 2 2 9) 0 1988 2 29
    ∷ answered (ten 1 9 9 0 0 2 2 9) 24 0 0 0
    ∷ answered (ten 0 0 0 4 0 2 2 9) 0 4 2 29
    ∷ answered (ten 0 1 0 0 0 2 2 9) 24 0 0 0
    ∷ answered (ten 0 4 0 0 0 2 2 9) 0 400 2 29
    ∷ answered (ten 0 0 0 0 0 2 2 9) 24 0 0 0
    ∷ answered (ten 0 0 0 1 0 2 2 9) 24 0 0 0
    ∷ answered (ten 9 9 9 9 0 2 2 9) 24 0 0 0
    ∷ answered (ten 0 0 0 0 0 1 0 1) 24 0 0 0
    ∷ answered (ten 0 0 0 1 0 1 0 1) 0 1 1 1
    ∷ answered (ten 9 9 9 9 0 1 0 1) 0 9999 1 1
    ∷ answered (ten 1 9 9 1 1 3 0 1) 24 0 0 0
    ∷ answered (ten 1 9 9 1 0 0 0 1) 24 0 0 0
    ∷ answered (ten 1 9 9 1 0 1 0 0) 24 0 0 0
    ∷ answered (0x31 ∷ 0x39 ∷ 0x39 ∷ 0x31 ∷ 0x2D ∷ 0x30 ∷ 0x31 ∷ 0x2D ∷ 0x30 ∷ []) 24 0 0 0
    ∷ answered [] 24 0 0 0
    ∷ answered (ten 1 9 9 1 0 1 0 1 ++ (0x54 ∷ 0x31 ∷ 0x32 ∷ 0x3A ∷ 0x30 ∷ 0x30 ∷ [])) 0 1991 1 1
    ∷ answered (0x31 ∷ 0x39 ∷ 0x39 ∷ 0x31 ∷ 0x30 ∷ 0x31 ∷ 0x30 ∷ 0x31 ∷ []) 24 0 0 0
    ∷ answered (0x31 ∷ 0x39 ∷ 0x39 ∷ 0x31 ∷ 0x2F ∷ 0x30 ∷ 0x31 ∷ 0x2F ∷ 0x30 ∷ 0x31 ∷ []) 24 0 0 0
    ∷ answered (0x31 ∷ 0x39 ∷ 0x39 ∷ 0x41 ∷ 0x2D ∷ 0x30 ∷ 0x31 ∷ 0x2D ∷ 0x30 ∷ 0x31 ∷ []) 24 0 0 0
    ∷ answered (0x31 ∷ 0x39 ∷ 0x39 ∷ 0x31 ∷ 0x2D ∷ 0x30 ∷ 0x41 ∷ 0x2D ∷ 0x30 ∷ 0x31 ∷ []) 24 0 0 0
    ∷ answered (0x31 ∷ 0x39 ∷ 0x39 ∷ 0x31 ∷ 0x2D ∷ 0x30 ∷ 0x31 ∷ 0x2D ∷ 0x30 ∷ 0x41 ∷ []) 24 0 0 0
    ∷ answered (0x3A ∷ 0x39 ∷ 0x39 ∷ 0x31 ∷ 0x2D ∷ 0x30 ∷ 0x31 ∷ 0x2D ∷ 0x30 ∷ 0x31 ∷ []) 24 0 0 0
    ∷ answered (0x31 ∷ 0x39 ∷ 0x39 ∷ 0x31 ∷ 0x2D ∷ 0x30 ∷ 0x31 ∷ 0x2D ∷ 0x3A ∷ 0x31 ∷ []) 24 0 0 0
    ∷ answered (0x2D ∷ 0x39 ∷ 0x39 ∷ 0x31 ∷ 0x2D ∷ 0x30 ∷ 0x31 ∷ 0x2D ∷ 0x30 ∷ 0x31 ∷ []) 24 0 0 0
    ∷ answered (0x31 ∷ 0x39 ∷ 0x39 ∷ 0x31 ∷ 0x2D ∷ 0x30 ∷ 0x31 ∷ 0x20 ∷ 0x30 ∷ 0x31 ∷ []) 24 0 0 0
    ∷ answered ((0x20 ∷ []) ++ ten 1 9 9 1 0 1 0 1) 24 0 0 0
    ∷ []

-- 1991-03-14
abbrev pub some_day : List ℕ
some_day = ten 1 9 9 1 0 3 1 4

-- streams that begin with a profile
abbrev pub streams : List Example
streams =
    answered (0xA0 ∷ 0x00 ∷ []) 23 0 0 0
    ∷ answered (0xA0 ∷ 0x02 ∷ 0xA3 ∷ 0x00 ∷ []) 23 0 0 0
    ∷ answered (0xA0 ∷ 0x04 ∷ 0xA3 ∷ 0x02 ∷ 0xA0 ∷ 0x00 ∷ []) 23 0 0 0
    ∷ answered ((0xA0 ∷ 0x10 ∷ 0xA3 ∷ 0x0E ∷ 0xA0 ∷ 0x0C ∷ 0x80 ∷ 0x0A ∷ []) ++ some_day) 0 1991 3 14
    ∷ answered ((0xA0 ∷ 0x20 ∷ 0xA3 ∷ 0x0E ∷ 0xA0 ∷ 0x0C ∷ 0x80 ∷ 0x0A ∷ []) ++ some_day ++ (0xA3 ∷ 0x0E ∷ 0xA0 ∷ 0x0C ∷ 0x80 ∷ 0x0A ∷ []) ++ some_day) 23 0 0 0
    ∷ answered ((0xA0 ∷ 0x12 ∷ 0xA3 ∷ 0x00 ∷ 0xA3 ∷ 0x0E ∷ 0xA0 ∷ 0x0C ∷ 0x80 ∷ 0x0A ∷ []) ++ some_day) 0 1991 3 14
    ∷ answered ((0xA0 ∷ 0x15 ∷ 0xA3 ∷ 0x13 ∷ 0xA0 ∷ 0x00 ∷ 0xA0 ∷ 0x0F ∷ 0x80 ∷ 0x0D ∷ []) ++ some_day ++ (0x54 ∷ 0x30 ∷ 0x39 ∷ [])) 0 1991 3 14
    ∷ answered ((0xA0 ∷ 0x1C ∷ 0xA3 ∷ 0x1A ∷ 0xA0 ∷ 0x18 ∷ 0x80 ∷ 0x0A ∷ []) ++ some_day ++ (0x80 ∷ 0x0A ∷ []) ++ some_day) 23 0 0 0
    ∷ answered ((0xA0 ∷ 0x12 ∷ 0xA3 ∷ 0x10 ∷ 0xA0 ∷ 0x0E ∷ 0xA0 ∷ 0x0C ∷ 0x80 ∷ 0x0A ∷ []) ++ some_day) 23 0 0 0
    ∷ answered ((0xA0 ∷ 0x12 ∷ 0xA3 ∷ 0x10 ∷ 0xA0 ∷ 0x0E ∷ 0x80 ∷ 0x0A ∷ []) ++ some_day ++ (0xA0 ∷ 0x00 ∷ [])) 23 0 0 0
    ∷ answered ((0xA0 ∷ 0x0E ∷ 0xA3 ∷ 0x0C ∷ 0x80 ∷ 0x0A ∷ []) ++ some_day) 23 0 0 0
    ∷ answered ((0xA0 ∷ 0x0E ∷ 0xA0 ∷ 0x0C ∷ 0x80 ∷ 0x0A ∷ []) ++ some_day) 23 0 0 0
    ∷ answered ((0xA0 ∷ 0x12 ∷ 0xA3 ∷ 0x10 ∷ 0xA3 ∷ 0x0E ∷ 0xA0 ∷ 0x0C ∷ 0x80 ∷ 0x0A ∷ []) ++ some_day) 23 0 0 0
    ∷ answered ((0xA0 ∷ 0x10 ∷ 0xA3 ∷ 0x0E ∷ 0xA0 ∷ 0x0C ∷ 0x81 ∷ 0x0A ∷ []) ++ some_day) 23 0 0 0
    ∷ answered ((0xA0 ∷ 0x1C ∷ 0xA3 ∷ 0x1A ∷ 0xA0 ∷ 0x18 ∷ 0x81 ∷ 0x0A ∷ []) ++ some_day ++ (0x80 ∷ 0x0A ∷ []) ++ ten 2 0 0 0 0 2 2 9) 0 2000 2 29
    ∷ answered ((0xA0 ∷ 0x1C ∷ 0x83 ∷ 0x0A ∷ []) ++ some_day ++ (0xA3 ∷ 0x0E ∷ 0xA0 ∷ 0x0C ∷ 0x80 ∷ 0x0A ∷ []) ++ some_day) 0 1991 3 14
    ∷ answered ((0xA0 ∷ 0x80 ∷ 0xA3 ∷ 0x80 ∷ 0xA0 ∷ 0x80 ∷ 0x80 ∷ 0x0A ∷ []) ++ some_day ++ (0x00 ∷ 0x00 ∷ 0x00 ∷ 0x00 ∷ 0x00 ∷ 0x00 ∷ [])) 0 1991 3 14
    ∷ answered ((0xA0 ∷ 0x10 ∷ 0xA3 ∷ 0x0E ∷ 0xA0 ∷ 0x0C ∷ 0x80 ∷ 0x0A ∷ []) ++ ten 1 9 9 1 0 2 3 0) 24 0 0 0
    ∷ answered ((0xA0 ∷ 0x10 ∷ 0xA3 ∷ 0x0E ∷ 0xA0 ∷ 0x0C ∷ 0x80 ∷ 0x0A ∷ []) ++ some_day ++ (0xA0 ∷ 0x00 ∷ [])) 0 1991 3 14
    ∷ []
