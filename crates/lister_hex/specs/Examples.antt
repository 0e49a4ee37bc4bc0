-- Texts and what they read as: document 01's printed input, and one for each thing that a line may and may not hold.
use Rattle.std.specs.Prelude.{ℕ, List, [], ◌∷◌}
use Prim.Native.String.{String}
use Rattle.lister_hex.specs.Lines.{TextMeaning, stream, unreadable}

-- "Hex lister, whole input"
abbrev pub input : String
input = "A000\nA211020104310C41053120302032A103120130\nA30F310940073120302032203004024869\n"

-- its stream: three elements, from 0, 2 and 21 to 38
abbrev pub input_stream : List ℕ
input_stream =
    0xA0 ∷ 0x00
    ∷ 0xA2 ∷ 0x11 ∷ 0x02 ∷ 0x01 ∷ 0x04 ∷ 0x31 ∷ 0x0C ∷ 0x41 ∷ 0x05 ∷ 0x31 ∷ 0x20 ∷ 0x30 ∷ 0x20 ∷ 0x32 ∷ 0xA1 ∷ 0x03 ∷ 0x12 ∷ 0x01 ∷ 0x30
    ∷ 0xA3 ∷ 0x0F ∷ 0x31 ∷ 0x09 ∷ 0x40 ∷ 0x07 ∷ 0x31 ∷ 0x20 ∷ 0x30 ∷ 0x20 ∷ 0x32 ∷ 0x20 ∷ 0x30 ∷ 0x04 ∷ 0x02 ∷ 0x48 ∷ 0x69
    ∷ []

-- empty lines, no newline at the end, lower case, half a pair at the end of a line and of the text, a carriage return, a space, another letter
abbrev pub examples : List (String × TextMeaning)
examples =
    (input, stream input_stream)
    ∷ ("", stream [])
    ∷ ("\n", stream [])
    ∷ ("A000", stream (0xA0 ∷ 0x00 ∷ []))
    ∷ ("A0\n\n00\n", stream (0xA0 ∷ 0x00 ∷ []))
    ∷ ("09AF\n", stream (0x09 ∷ 0xAF ∷ []))
    ∷ ("A0\na0\n", unreadable 2)
    ∷ ("A\n0\n", unreadable 1)
    ∷ ("A0\nA", unreadable 2)
    ∷ ("A0\r\n", unreadable 1)
    ∷ ("A0 00\n", unreadable 1)
    ∷ ("A0\n\nG0\nG0\n", unreadable 3)
    ∷ []
