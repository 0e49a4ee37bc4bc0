-- The sources of a side: for each line of the whole reading, in order, the places of its unit's content. A record has three numbers, the line, and first and
-- past in the stream.
use Rattle.std.specs.Prelude.{ℕ, suc, cond, List, [], ◌∷◌, ◌++◌, eqb}
use Rattle.contents.specs.declared.Span.{Span}
use Rattle.elements.specs.declared.Edition.{Edition}
use Rattle.letters.specs.Letter.{Letter, letter, refusal, letter_in}
use Rattle.reading.specs.declared.Match.{Match}
use Rattle.reading.specs.declared.Side.{Side}
use Rattle.reading.specs.Match.{matches}
use Rattle.sources.specs.Units.{places_in}

-- the octets from first to past of the stream are shown in a line
pub record Source : Type 0 where
  pub line : ℕ
  pub place : Span

-- the sources of one line
unfoldable pub line_sources : (line : ℕ) → List Span → List Source
line_sources line [] = []
line_sources line (p ∷ ps) = record { line = line; place = p } ∷ line_sources line ps

-- the sources of the lines of some matches, the first of which is this line
unfoldable pub sources_from : (places : ℕ → List Span) → (line : ℕ) → List Match → List Source
sources_from places line [] = []
sources_from places line (m ∷ ms) = line_sources line (places m.unit) ++ sources_from places (suc line) ms

-- those of a side of a letter, line by line; what is refused has none
abbrev pub sources_by : Edition → Side → (s : List ℕ) → Letter → List Source
sources_by edition side s (letter headers elements) = sources_from (places_in edition s) 0 (matches side elements)
sources_by edition side s (refusal number place headers) = []

unfoldable pub sources_in : Edition → Side → (s : List ℕ) → List Source
sources_in edition side s = sources_by edition side s (letter_in edition s)

-- the places of sources, and those of one line
unfoldable pub places_for : List Source → List Span
places_for [] = []
places_for (x ∷ xs) = x.place ∷ places_for xs

unfoldable pub places_from : (line : ℕ) → List Source → List Span
places_from line [] = []
places_from line (x ∷ xs) = cond (eqb x.line line) (x.place ∷ places_from line xs) (places_from line xs)

-- "line, first and past in the stream"
abbrev pub source_width : ℕ
source_width = 3

-- the numbers of sources, one record after another
unfoldable pub source_numbers : List Source → List ℕ
source_numbers [] = []
source_numbers (x ∷ xs) = x.line ∷ x.place.first ∷ x.place.past ∷ source_numbers xs

-- the numbers of one line
abbrev pub place_numbers : (line : ℕ) → List Span → List ℕ
place_numbers line ps = source_numbers (line_sources line ps)
