-- Characters as bytes. Only ASCII is meant: no other character stands in this project's texts.
use Rattle.std.specs.Prelude.{ℕ, List, [], ◌∷◌}
use Prim.Native.Char.{code}
use Prim.Native.String.{String}

-- the bytes of a text
abbrev pub ascii : String → List ℕ
ascii String.[] = []
ascii (String.◌∷◌ c cs) = code c ∷ ascii cs

-- what stands before a number
abbrev pub space_byte : ℕ
space_byte = 32

-- what ends a line
abbrev pub newline : ℕ
newline = 10
