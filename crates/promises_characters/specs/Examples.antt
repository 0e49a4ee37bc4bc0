-- Octets, and what they are shown as, that are computed: an accent before its letter, before a space, before a letter that has no such character, at
-- the end, before an accent, before no letter; a dollar and a currency sign in T.61; the other sets; ends of lines; an escape.
use Rattle.std.specs.Prelude.{ℕ, List, [], ◌∷◌}
use Prim.Native.Char.{code}
use Prim.Native.String.{String}

pub record Example : Type 0 where
  pub set : ℕ
  pub octets : List ℕ
  pub text : String

abbrev example : ℕ → List ℕ → String → Example
example s o t = record { set = s; octets = o; text = t }

-- the code points of a text
abbrev pub codes : String → List ℕ
codes String.[] = []
codes (String.◌∷◌ c rest) = code c ∷ codes rest

abbrev pub examples : List Example
examples =
    example 0 (0x4D ∷ 0xC8 ∷ 0x75 ∷ 0x6C ∷ []) "Mül"
    ∷ example 1 (0xCB ∷ 0x63 ∷ 0x24 ∷ 0xA4 ∷ []) "ç¤$"
    ∷ example 2 (0xC8 ∷ 0x75 ∷ 0xFC ∷ []) "Èuü"
    ∷ example 0 (0xC2 ∷ 0x20 ∷ 0xC2 ∷ 0x71 ∷ []) "´q́"
    ∷ example 0 (0x75 ∷ 0xC8 ∷ []) "u⟦C8⟧"
    ∷ example 0 (0xC8 ∷ 0xC8 ∷ 0x75 ∷ []) "⟦C8⟧ü"
    ∷ example 0 (0xC8 ∷ 0x3B ∷ []) "⟦C8⟧;"
    ∷ example 7 (0x0D ∷ 0x0A ∷ 0x0D ∷ 0x1B ∷ []) "\r\n⟦0D⟧⟦1B⟧"
    ∷ []
