-- The matches that are looked up by the rows of a letter, of any edition.
use Rattle.std.specs.Prelude.{Bool, ◌&&◌, List, [], ◌∷◌, ℕ, ◌+◌, ◌*◌, ◌<◌, ◌≤◌, length, Option, Some, None}
use Rattle.headers.specs.Head.{is_in}
use Rattle.rows.specs.Columns.{portions_column, identifier_column, logical_column, kind_at, span_at, there}
use Rattle.elements.specs.declared.Edition.{Edition}
use Rattle.elements.specs.Judge.{Element}
use Rattle.letters.specs.Scratch.{LetterRows}
use Rattle.letters.specs.Telling.{RowsTell, element_at}
use Rattle.reading.specs.declared.Match.{Match}
use Rattle.reading.specs.declared.Side.{Side}
use Rattle.reading.specs.declared.Side.TheVariants.{Layout, Logical}
use Rattle.reading.specs.Match.{kinds_of, element_matches, matches}
use Rattle.reading.specs.Records.{PutsRecords, ListsMatches}

-- where a row has the identifier of a side
abbrev pub column_of : Side → ℕ
column_of Layout = identifier_column
column_of Logical = logical_column

-- the name space of text units
abbrev pub unit_space : ℕ
unit_space = 2

-- the matches that a look-up of a portion yields
abbrev pub found_matches : (e p : ℕ) → Option ℕ → List Match
found_matches e p (Some u) = record { element = e; portion = p; unit = u } ∷ []
found_matches e p None = []

-- a unit that was found has a number below n
abbrev pub FoundBelow : (n : ℕ) → Option ℕ → Type 0
FoundBelow n (Some u) = u < n
FoundBelow n None = Unit {0}

-- whether element e is read on the side and has an identifier and portions
unfoldable pub is_listed : (side : Side) (rows : List ℕ) (e : ℕ) → Bool
is_listed side rows e =
    is_in (kind_at rows e) (kinds_of side) && there (span_at rows identifier_column e) && there (span_at rows portions_column e)

-- there is room for the matches of element e after so many
abbrev pub Room : (side : Side) (s rows : List ℕ) (n e : ℕ) (flat : List ℕ) (count : ℕ) → Type 0
Room side s rows n e flat count =
    (elements : List Element) → RowsTell s rows n elements → 3 * (count + length (element_matches side elements e (element_at elements e))) ≤ length flat

-- the matches of element e are put after so many
abbrev pub PutsElement : (side : Side) (s rows : List ℕ) (n e : ℕ) (before : List ℕ) (count : ℕ) (after : List ℕ) (total : ℕ) → Type 0
PutsElement side s rows n e before count after total =
    (elements : List Element) → RowsTell s rows n elements → PutsRecords before count (element_matches side elements e (element_at elements e)) after total

-- all matches of the side are put
abbrev pub PutsAll : (side : Side) (s rows : List ℕ) (n : ℕ) (before after : List ℕ) (total : ℕ) → Type 0
PutsAll side s rows n before after total = (elements : List Element) → RowsTell s rows n elements → PutsRecords before 0 (matches side elements) after total

-- the reading list of a side of the letter whose rows these are, by whichever edition
abbrev pub ListsLetter : (side : Side) (s rows : List ℕ) (n : ℕ) (before after : List ℕ) (count : ℕ) → Type 0
ListsLetter side s rows n before after count =
    (edition : Edition) (letter : LetterRows edition s rows n) → ListsMatches side letter.elements before after count
