-- The lines that the hex lister writes (document 01, "Checked examples"): a word or a number, numbers after it with a space before each, and a newline.
use Rattle.std.specs.Prelude.{ℕ, ◌≤◌, ◌≡◌, List, [], ◌∷◌, ◌++◌, length, take, drop}
use Rattle.lister_text.specs.Ascii.{ascii, space_byte, newline}
use Rattle.lister_text.specs.Decimal.{decimal}

-- each number, with a space before it
unfoldable pub spaced : List ℕ → List ℕ
spaced [] = []
spaced (n ∷ ns) = space_byte ∷ (decimal n ++ spaced ns)

-- what follows the first word of a line
abbrev pub rest : List ℕ → List ℕ
rest numbers = spaced numbers ++ (newline ∷ [])

-- a line: its first word, and the rest
abbrev pub line : List ℕ → List ℕ → List ℕ
line first numbers = first ++ rest numbers

-- "accepted, elements, headers"
abbrev pub accepted : ℕ → ℕ → List ℕ
accepted elements headers = line (ascii "accepted") (elements ∷ headers ∷ [])

-- "then element, first, past, kind"
abbrev pub element : ℕ → ℕ → ℕ → ℕ → List ℕ
element number first past kind = line (decimal number) (first ∷ past ∷ kind ∷ [])

-- "then layout matches": element, portion place, unit
abbrev pub layout : ℕ → ℕ → ℕ → List ℕ
layout number portion unit = line (ascii "layout") (number ∷ portion ∷ unit ∷ [])

-- "then logical ones"
abbrev pub logical : ℕ → ℕ → ℕ → List ℕ
logical number portion unit = line (ascii "logical") (number ∷ portion ∷ unit ∷ [])

-- "`refused` with number and place"
abbrev pub refused : ℕ → ℕ → List ℕ
refused number place = line (ascii "refused") (number ∷ place ∷ [])

-- "only `unreadable` and its number"
abbrev pub unreadable : ℕ → List ℕ
unreadable number = line (ascii "unreadable") (number ∷ [])

-- a line was written into a lent array: its length is told, and it stands at the array's front, whose other bytes stay
pub record WritesLine (line lent : List ℕ) (told : ℕ) (array : List ℕ) : Type 0 where
  pub count : told ≡ length line
  pub bytes : array ≡ line ++ drop (length line) lent
  -- these follow: the line fits the array, and can be lent as a part of it
  pub fits : told ≤ length lent
  pub within : told ≤ length array
  pub part : told ≡ length (take told array)
