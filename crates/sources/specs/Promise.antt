-- What is promised of the sources: each octet on the screen is an octet of this stream, at a place that is told. Line by line what stands at the places of
-- the line is the text of its unit; they lie in the content fields of the unit's row; and no octet of the stream is shown twice.
use Rattle.std.specs.Prelude.{◌≡◌, List, ℕ, ◌<◌, ◌≤◌, length, get_or}
use Rattle.std.proofs.Math.Option.{some}
use Rattle.std.proofs.Math.ListN.{get_elem?}
use Rattle.elements.specs.declared.Edition.{Edition}
use Rattle.elements.specs.declared.Row.{Row}
use Rattle.elements.specs.Judge.{joined_content, Element}
use Rattle.letters.specs.Letter.{rows_in}
use Rattle.reading.specs.declared.Match.{Match}
use Rattle.reading.specs.declared.Side.{Side}
use Rattle.reading.specs.Match.{matches, unit_kind, IsMatch}
use Rattle.text_lines.specs.Text.{TextOf, texts_of}
use Rattle.sources.specs.Places.{octets_at, origin_of, Ascend}
use Rattle.sources.specs.Sources.{Source, places_for, places_from, sources_in}

-- a source shows the octet `at` of the stream
abbrev pub Shows : Source → (at : ℕ) → Type 0
Shows x at = (x.place.first ≤ at) × (at < x.place.past)

-- the text of each unit is its content: of any text that is so, as that of the whole reading is
abbrev pub IsText : List Element → TextOf → Type 0
IsText elements text = (u : ℕ) (unit : Element) → get_elem? elements u ≡ some unit → unit.kind ≡ unit_kind → text u ≡ joined_content unit.content

-- line k, which is the match m: what stands at its places, one after another, is the content of m's own unit, and they lie in the content fields of that
-- unit's row, each past the one before it
pub record LineFrom (edition : Edition) (side : Side) (s : List ℕ) (elements : List Element) (k : ℕ) (m : Match) : Type 0 where
  pub is_match : IsMatch side elements m
  pub text : octets_at s (places_from k (sources_in edition side s)) ≡ joined_content is_match.unit.content
  pub row : Row
  pub row_stands : get_elem? (rows_in edition s) m.unit ≡ some row
  pub inside : Ascend row.content.first row.content.past (places_from k (sources_in edition side s))

-- of a letter with so many headers
pub record FromThisStream (edition : Edition) (side : Side) (s : List ℕ) (headers : ℕ) (elements : List Element) : Type 0 where
  -- what stands at all places, one after another, is all that the whole reading shows
  pub all_octets : (text : TextOf) → IsText elements text → octets_at s (places_for (sources_in edition side s)) ≡ texts_of text (matches side elements)
  pub each_line : (k : ℕ) (m : Match) → get_elem? (matches side elements) k ≡ some m → LineFrom edition side s elements k m
  pub no_other_line : (i : ℕ) (x : Source) → get_elem? (sources_in edition side s) i ≡ some x → x.line < length (matches side elements)
  -- no source is empty, and each lies in the stream
  pub in_stream : (i : ℕ) (x : Source) → get_elem? (sources_in edition side s) i ≡ some x
      → (x.place.first < x.place.past) × (x.place.past ≤ length s)
  -- each octet that is shown is the octet of the stream at its origin, and no octet of the stream is shown twice
  pub each_octet : let places = places_for (sources_in edition side s) in (k : ℕ) → k < length (octets_at s places)
      → (get_or (octets_at s places) k 0 ≡ get_or s (origin_of places k) 0) × (origin_of places k < length s)
  pub octet_once : let places = places_for (sources_in edition side s) in (j k : ℕ) → j < length (octets_at s places) → k < length (octets_at s places)
      → origin_of places j ≡ origin_of places k → j ≡ k
  -- no octet of the stream is in two sources
  pub shown_once : (i j at : ℕ) (x y : Source) → get_elem? (sources_in edition side s) i ≡ some x → get_elem? (sources_in edition side s) j ≡ some y
      → Shows x at → Shows y at → i ≡ j
  -- so that a caller knows what to lend: as many records as the check counts headers
  pub headers_enough : length (sources_in edition side s) ≤ headers
