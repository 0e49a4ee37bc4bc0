-- The checked examples of document 01 that the walk alone decides, and those that it passes on: a stream, and what the walk tells of it.
use Rattle.std.specs.Prelude.{ℕ, zero, suc, List, [], ◌∷◌, ◌++◌}
use Rattle.octets.specs.Told.{Told}

pub record Example : Type 0 where
  pub stream : List ℕ
  pub told : Told

-- n times xs
abbrev pub many : ℕ → List ℕ → List ℕ
many zero xs = []
many (suc n) xs = xs ++ many n xs

-- number, place, headers
abbrev pub gives : (number place headers : ℕ) → Told
gives number place headers = record { number = number; place = place; headers = headers }

abbrev pub examples : List Example
examples =
    record { stream = []; told = gives 0 0 0 }
    ∷ record { stream = 0xA0 ∷ 0x00 ∷ []; told = gives 0 0 1 }
    ∷ record { stream = 0xA0 ∷ 0x80 ∷ 0x00 ∷ 0x00 ∷ []; told = gives 0 0 1 }
    ∷ record { stream = 0xA0 ∷ 0x80 ∷ []; told = gives 7 2 1 }
    ∷ record { stream = 0xA0 ∷ 0x01 ∷ 0x00 ∷ []; told = gives 2 2 1 }
    ∷ record { stream = 0x80 ∷ 0x80 ∷ []; told = gives 6 0 0 }
    ∷ record { stream = 0xA0 ∷ 0x02 ∷ 0x05 ∷ []; told = gives 7 0 0 }
    ∷ record { stream = 0xA0 ∷ 0x02 ∷ 0x01 ∷ 0x00 ∷ []; told = gives 8 2 1 }
    ∷ record { stream = 0xA0 ∷ 0x00 ∷ 0xA0 ∷ 0x00 ∷ []; told = gives 0 0 2 }
    ∷ record { stream = 0xA0 ∷ 0x00 ∷ 0xA4 ∷ 0x00 ∷ []; told = gives 0 0 2 }
    ∷ record { stream = many 16 (0xA0 ∷ 0x80 ∷ []) ++ many 16 (0x00 ∷ 0x00 ∷ []); told = gives 0 0 16 }
    ∷ record { stream = many 17 (0xA0 ∷ 0x80 ∷ []) ++ many 17 (0x00 ∷ 0x00 ∷ []); told = gives 3 32 16 }
    ∷ []

-- W-202, type numbers above 30: 31 and 128 in a profile; a number under 31, a first following octet of 80, a number over 16,383; one that
-- is cut off, and one that is universal; 7 before 5, and 4 before both; 3 before all
abbrev pub type_examples : List Example
type_examples =
    record { stream = 0xA0 ∷ 0x04 ∷ 0x9F ∷ 0x1F ∷ 0x01 ∷ 0x00 ∷ []; told = gives 0 0 2 }
    ∷ record { stream = 0xA0 ∷ 0x05 ∷ 0x9F ∷ 0x81 ∷ 0x00 ∷ 0x01 ∷ 0x00 ∷ []; told = gives 0 0 2 }
    ∷ record { stream = 0xBF ∷ 0x1E ∷ 0x00 ∷ []; told = gives 4 0 0 }
    ∷ record { stream = 0xBF ∷ 0x80 ∷ 0x00 ∷ []; told = gives 4 0 0 }
    ∷ record { stream = 0xBF ∷ 0x81 ∷ 0xFF ∷ 0x00 ∷ []; told = gives 4 0 0 }
    ∷ record { stream = 0xBF ∷ []; told = gives 7 0 0 }
    ∷ record { stream = 0xA0 ∷ 0x02 ∷ 0xBF ∷ 0x81 ∷ 0x00 ∷ 0x00 ∷ []; told = gives 7 2 1 }
    ∷ record { stream = 0xBF ∷ 0x1F ∷ []; told = gives 7 0 0 }
    ∷ record { stream = 0xBF ∷ 0x1F ∷ 0x00 ∷ []; told = gives 0 0 1 }
    ∷ record { stream = 0x1F ∷ 0x1F ∷ 0x00 ∷ []; told = gives 5 0 0 }
    ∷ record { stream = 0x1F ∷ 0x81 ∷ []; told = gives 7 0 0 }
    ∷ record { stream = 0x1F ∷ 0x80 ∷ []; told = gives 4 0 0 }
    ∷ record { stream = many 16 (0xA0 ∷ 0x80 ∷ []) ++ (0xBF ∷ 0x80 ∷ []); told = gives 3 32 16 }
    ∷ []
