-- What the code learns: the places of what holds a content, and of the lines that are listed in scratch.
use Rattle.std.specs.Prelude.{List, ℕ, ◌*◌, ◌≤◌, length}
use Rattle.octets.specs.Walk.{stream_limit}
use Rattle.runs.specs.Runs.{items_of, Fine}
use Rattle.contents.specs.declared.Span.{Span}
use Rattle.elements.specs.declared.Edition.{Edition}
use Rattle.elements.specs.Judge.{most_elements}
use Rattle.letters.specs.declared.Held.{Held}
use Rattle.letters.specs.declared.Held.TheVariants.{Part, Pieces}
use Rattle.text_lines.specs.Flat.{records_from}
use Rattle.sources.specs.Places.{piece_at, places_of}
use Rattle.sources.specs.Sources.{sources_from}
use Rattle.sources.specs.Units.{places_in}

-- the places of what holds a content: one piece, or the pieces of a run
abbrev pub held_places : (s : List ℕ) → Held → List Span
held_places s (Part first past) = piece_at first past
held_places s (Pieces run) = places_of (items_of s run)

-- it lies in the stream, or can be met piece by piece
abbrev pub HeldHere : (s : List ℕ) → Held → Type 0
HeldHere s (Part first past) = past ≤ length s
HeldHere s (Pieces run) = Fine s run

-- there are so many matches in the numbers, and their lines have no more sources than a stream may have octets
pub record LinesListed (edition : Edition) (s numbers : List ℕ) (count : ℕ) : Type 0 where
  pub room : 3 * count ≤ length numbers
  pub few : count ≤ most_elements
  pub short : length (sources_from (places_in edition s) 0 (records_from numbers 0 count)) ≤ stream_limit
