-- What a text of hex lines means (document 01, "Table, list, part, normal form" and "Checked examples"): the stream, or the line that cannot be read.
-- Not said here: that the text comes in blocks (`Blocks`).
use Rattle.std.specs.Prelude.{ℕ, ◌+◌, ◌-◌, ◌*◌, Bool, cond, ◌&&◌, List, [], ◌∷◌, ◌++◌, length, ltb, leb, eqb, Some, None}
use Rattle.std.specs.Prelude
use Rattle.std.proofs.Math.Option.{Option, none, some, map}
use Rattle.lister_text.specs.Ascii.{newline}

-- "a stream of at most 32,768 bytes"
abbrev pub input_limit : ℕ
input_limit = 32768

-- the value of an upper-case hexadecimal digit, 0 to 9 (48 to 57) or A to F (65 to 70); 16 for any other byte
unfoldable pub digit_value : ℕ → ℕ
digit_value b =
    cond (leb 48 b && leb b 57) (b - 48)
    (cond (leb 65 b && leb b 70) (10 + (b - 65))
    16)

-- whether a byte is such a digit
abbrev pub is_hex_digit : ℕ → Bool
is_hex_digit b = ltb (digit_value b) 16

-- the value of a digit; any other byte has none
abbrev pub value_of : ℕ → Prelude.Option ℕ
value_of b = cond (is_hex_digit b) (Some (digit_value b)) None

-- the octet of a pair of digits
abbrev pub octet : ℕ → ℕ → ℕ
octet a b = digit_value a * 16 + digit_value b

-- "upper-case hexadecimal pairs": the octets of a line, if it holds nothing else
unfoldable pub pairs : List ℕ → Option (List ℕ)
pairs [] = some []
pairs (a ∷ []) = none
pairs (a ∷ b ∷ rest) = cond (is_hex_digit a && is_hex_digit b) (map (λ os. octet a b ∷ os) (pairs rest)) none

-- a byte more at the front of the first line
abbrev pub begin : ℕ → List (List ℕ) → List (List ℕ)
begin b [] = (b ∷ []) ∷ []
begin b (l ∷ ls) = (b ∷ l) ∷ ls

-- the lines of a text: a newline ends one, "the last line may lack its end", and past the last newline there is no line of no bytes
unfoldable pub lines : List ℕ → List (List ℕ)
lines [] = []
lines (b ∷ bs) = cond (eqb b newline) ([] ∷ lines bs) (begin b (lines bs))

-- what a text reads as
pub data TextMeaning : Type 0 where
  stream : (octets : List ℕ) → TextMeaning
  unreadable : (line : ℕ) → TextMeaning

-- a line that holds anything else, or the pair past the limit, ends the reading; else its octets are joined to the others
abbrev pub with_line : List ℕ → ℕ → Option (List ℕ) → (List ℕ → TextMeaning) → TextMeaning
with_line done number none onward = unreadable number
with_line done number (some octets) onward = cond (leb (length (done ++ octets)) input_limit) (onward (done ++ octets)) (unreadable number)

-- the lines from a number on, where `done` is the stream so far
unfoldable pub reads_from : List ℕ → ℕ → List (List ℕ) → TextMeaning
reads_from done number [] = stream done
reads_from done number (l ∷ ls) = with_line done number (pairs l) (λ more. reads_from more (number + 1) ls)

-- "lines of upper-case hexadecimal pairs, joined"; "the first line with anything else, or with the pair past 32,768", by "its number from 1"
abbrev pub reads : List ℕ → TextMeaning
reads text = reads_from [] 1 (lines text)
