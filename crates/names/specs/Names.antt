-- Document 01, "Element rules": how identifiers and portion numbers are spelt, and when two of them are the same.
-- Says nothing of where they stand in an element, nor of which of them have to differ.
use Rattle.std.specs.Prelude.{ℕ, Bool, true, false, cond, ◌&&◌, List, [], ◌∷◌, length, eqb, leb}

-- the byte between two groups of digits
abbrev pub space_byte : ℕ
space_byte = 32

-- "1 to 64 bytes"
abbrev pub longest_identifier : ℕ
longest_identifier = 64

-- "1 to 16 digits"
abbrev pub longest_portion : ℕ
longest_portion = 16

-- a byte from 48 to 57
unfoldable pub is_digit : ℕ → Bool
is_digit byte = leb 48 byte && leb byte 57

-- "groups of digits with one space between groups", to the end; `in_group` says that a digit stands right before
unfoldable pub grouped : (in_group : Bool) → List ℕ → Bool
grouped in_group [] = in_group
grouped in_group (byte ∷ bytes) =
    cond (is_digit byte) (grouped true bytes) (eqb byte space_byte && in_group && grouped false bytes)

-- "An identifier is groups of digits with one space between groups, 1 to 64 bytes"; no bytes are no group
unfoldable pub is_identifier : List ℕ → Bool
is_identifier bytes = leb (length bytes) longest_identifier && grouped false bytes

-- digits to the end
unfoldable pub all_digits : List ℕ → Bool
all_digits [] = true
all_digits (byte ∷ bytes) = is_digit byte && all_digits bytes

-- "A portion number is 1 to 16 digits"
unfoldable pub is_portion : List ℕ → Bool
is_portion bytes = leb 1 (length bytes) && leb (length bytes) longest_portion && all_digits bytes

-- "Both are compared byte by byte; 0 and 00 differ"
unfoldable pub same : List ℕ → List ℕ → Bool
same [] [] = true
same [] (y ∷ ys) = false
same (x ∷ xs) [] = false
same (x ∷ xs) (y ∷ ys) = eqb x y && same xs ys
