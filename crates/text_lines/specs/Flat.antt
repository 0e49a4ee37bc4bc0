-- The matches and the ends of their texts as numbers in scratch: three numbers a match, as `reading` leaves them, and after all of these one number a
-- match, where its text ends.
use Rattle.std.specs.Prelude.{◌≡◌, ℕ, zero, suc, ◌+◌, ◌*◌, List, [], ◌∷◌, length, get_or}
use Rattle.std.proofs.lemmas.List.Edits.{sets}
use Rattle.reading.specs.declared.Match.{Match}
use Rattle.reading.specs.Records.{record_at}
use Rattle.text_lines.specs.Text.{TextOf, texts_of}

-- so many matches from number k on
unfoldable pub records_from : List ℕ → (k left : ℕ) → List Match
records_from numbers k zero = []
records_from numbers k (suc n) = record_at numbers k ∷ records_from numbers (suc k) n

-- where the text of each match ends, if the first begins at first
unfoldable pub pasts : TextOf → (first : ℕ) → List Match → List ℕ
pasts text first [] = []
pasts text first (m ∷ ms) = (first + length (text m.unit)) ∷ pasts text (first + length (text m.unit)) ms

-- the numbers of so many lines from number k on, of count lines in all, the next text beginning at first
unfoldable pub lines_left : List ℕ → (count k left first : ℕ) → List ℕ
lines_left numbers count k zero first = []
lines_left numbers count k (suc n) first =
    get_or numbers (3 * k) 0 ∷ get_or numbers (3 * k + 1) 0 ∷ get_or numbers (3 * k + 2) 0 ∷ first ∷ get_or numbers (3 * count + k) 0
    ∷ lines_left numbers count (suc k) n (get_or numbers (3 * count + k) 0)

-- the texts of the first matches were put to the output from its start, and where each ends after the matches
pub record PutsTexts (text : TextOf) (numbers : List ℕ) (count : ℕ) (out numbers_after out_after : List ℕ) : Type 0 where
  pub put : out_after ≡ sets out 0 (texts_of text (records_from numbers 0 count))
  pub ended : numbers_after ≡ sets numbers (3 * count) (pasts text 0 (records_from numbers 0 count))
