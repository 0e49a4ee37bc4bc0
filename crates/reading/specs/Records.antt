-- The lent list as numbers. Document 01, "Table, list, part, normal form": "The lent list is a run of records of three numbers: element,
-- portion place, unit, all from 0. Records past the count keep theirs."
use Rattle.std.specs.Prelude.{◌≡◌, List, [], ◌∷◌, ◌++◌, ℕ, zero, suc, ◌+◌, ◌*◌, ◌≤◌, length, get_or, drop}
use Rattle.std.proofs.lemmas.List.Edits.{sets}
use Rattle.elements.specs.Judge.{Element}
use Rattle.reading.specs.declared.Match.{Match}
use Rattle.reading.specs.declared.Side.{Side}
use Rattle.reading.specs.Match.{matches}

-- the numbers of records, three a record
unfoldable pub numbers_of : List Match → List ℕ
numbers_of [] = []
numbers_of (m ∷ ms) = m.element ∷ m.portion ∷ m.unit ∷ numbers_of ms

-- the record k of a list of numbers
abbrev pub record_at : List ℕ → (k : ℕ) → Match
record_at numbers k =
    record { element = get_or numbers (3 * k) 0; portion = get_or numbers (3 * k + 1) 0; unit = get_or numbers (3 * k + 2) 0 }

-- the first records of a list of numbers
unfoldable pub records : List ℕ → (count : ℕ) → List Match
records numbers zero = []
records numbers (suc n) = records numbers n ++ (record_at numbers n ∷ [])

-- after so many records these were put, in their place, and so many are there then
pub record PutsRecords (before : List ℕ) (count : ℕ) (ms : List Match) (after : List ℕ) (total : ℕ) : Type 0 where
  pub counted : total ≡ count + length ms
  pub stored : after ≡ sets before (3 * count) (numbers_of ms)

-- the list of a side, from its start: so many records, and past them what was there
pub record ListsMatches (side : Side) (elements : List Element) (before after : List ℕ) (count : ℕ) : Type 0 where
  pub counted : count ≡ length (matches side elements)
  pub fits : 3 * count ≤ length after
  pub stored : after ≡ numbers_of (matches side elements) ++ drop (3 * count) before
