-- A code point as UTF-8 (RFC 3629, section 3): one octet below 80, two below 800, three below 10000, else four; six bits in each octet after the first.
use Rattle.std.specs.Prelude.{ℕ, ◌+◌, ◌/◌, ◌%◌, cond, List, [], ◌∷◌, ◌++◌, ltb}

-- an octet that follows the first: the last six bits of a number
abbrev pub next : ℕ → ℕ
next p = 0x80 + p % 64

unfoldable pub utf8 : ℕ → List ℕ
utf8 p =
    cond (ltb p 0x80) (p ∷ [])
    (cond (ltb p 0x800) ((0xC0 + p / 64) ∷ next p ∷ [])
    (cond (ltb p 0x10000) ((0xE0 + p / 4096) ∷ next (p / 64) ∷ next p ∷ [])
    ((0xF0 + p / 262144) ∷ next (p / 4096) ∷ next (p / 64) ∷ next p ∷ [])))

-- code points, one after another
unfoldable pub utf8s : List ℕ → List ℕ
utf8s [] = []
utf8s (p ∷ ps) = utf8 p ++ utf8s ps
