-- Letters cut into blocks, and what the close tells: the checked examples of document 01 that the walk decides, cut in the middle of a
-- header, of a type field, of a value and of a closing mark, with empty blocks, blocks that are refused, and a close that comes early.
use Rattle.std.specs.Prelude.{ℕ, List, [], ◌∷◌}
use Rattle.octets.specs.Told.{Told}
use Rattle.octets.specs.Examples.{gives, many}

pub record Example : Type 0 where
  pub total : ℕ
  pub blocks : List (List ℕ)
  pub told : Told

abbrev pub examples : List Example
examples =
    record { total = 0; blocks = []; told = gives 0 0 0 }
    ∷ record { total = 2; blocks = (0xA0 ∷ []) ∷ [] ∷ (0x00 ∷ []) ∷ []; told = gives 0 0 1 }
    ∷ record { total = 4; blocks = (0xA0 ∷ []) ∷ (0x80 ∷ 0x00 ∷ []) ∷ (0x00 ∷ []) ∷ []; told = gives 0 0 1 }
    ∷ record { total = 2; blocks = (0xA0 ∷ 0x80 ∷ []) ∷ []; told = gives 7 2 1 }
    ∷ record { total = 3; blocks = (0xA0 ∷ 0x01 ∷ []) ∷ (0x00 ∷ []) ∷ []; told = gives 2 2 1 }
    ∷ record { total = 3; blocks = (0xA0 ∷ []) ∷ (0x02 ∷ []) ∷ (0x05 ∷ []) ∷ []; told = gives 7 0 0 }
    ∷ record { total = 4; blocks = (0xA0 ∷ 0x02 ∷ 0x01 ∷ []) ∷ (0x00 ∷ []) ∷ []; told = gives 8 2 1 }
    ∷ record { total = 7; blocks = (0xA0 ∷ 0x81 ∷ []) ∷ (0x04 ∷ 0x80 ∷ 0x02 ∷ 0xFF ∷ []) ∷ (0xFF ∷ []) ∷ []; told = gives 0 0 2 }
    ∷ record { total = 2; blocks = (0xA0 ∷ []) ∷ (0x00 ∷ 0x00 ∷ []) ∷ (0x00 ∷ []) ∷ (0x00 ∷ []) ∷ []; told = gives 0 0 1 }
    ∷ record { total = 4; blocks = (0x80 ∷ 0x80 ∷ []) ∷ (0x00 ∷ []) ∷ []; told = gives 29 0 0 }
    ∷ record { total = 4; blocks = (0x80 ∷ 0x80 ∷ []) ∷ (0x1F ∷ 0x1F ∷ []) ∷ []; told = gives 6 0 0 }
    ∷ record { total = 7; blocks = (0xA0 ∷ 0x05 ∷ 0x9F ∷ []) ∷ (0x81 ∷ []) ∷ (0x00 ∷ []) ∷ (0x01 ∷ 0x00 ∷ []) ∷ []; told = gives 0 0 2 }
    ∷ record { total = 6; blocks = (0xA0 ∷ 0x02 ∷ 0xBF ∷ []) ∷ (0x81 ∷ []) ∷ (0x00 ∷ 0x00 ∷ []) ∷ []; told = gives 7 2 1 }
    ∷ record { total = 3; blocks = (0x1F ∷ []) ∷ (0x80 ∷ []) ∷ (0x00 ∷ []) ∷ []; told = gives 4 0 0 }
    ∷ record { total = 64; blocks = many 16 (0xA0 ∷ 0x80 ∷ []) ∷ many 16 (0x00 ∷ 0x00 ∷ []) ∷ []; told = gives 0 0 16 }
    ∷ record { total = 68; blocks = many 17 (0xA0 ∷ 0x80 ∷ []) ∷ many 17 (0x00 ∷ 0x00 ∷ []) ∷ []; told = gives 3 32 16 }
    ∷ record { total = 1048577; blocks = []; told = gives 29 0 0 }
    ∷ []
