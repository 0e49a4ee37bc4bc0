-- Where each octet on the screen stands: what the whole reading (answers, specs/Text) shows of a side of a stream, and what the sources (answers,
-- specs/Sources) tell of it, go together, of any two programs that meet the contracts of the two questions. Each octet on the screen is an octet of this
-- stream, at a place that is told; line by line what stands at the places of the line is the text of its own unit; and no octet is shown twice.
use Rattle.std.specs.Prelude.{◌≡◌, List, [], ◌∷◌, map, ℕ, ◌*◌, ◌<◌, ◌≤◌, length, take, drop, get_or}
use Rattle.std.proofs.Math.Option.{some}
use Rattle.std.proofs.Math.ListN.{get_elem?}
use Rattle.std.proofs.Math.Seq.{slice}
use Rattle.octets.specs.Walk.{stream_limit}
use Rattle.normal.specs.Normal.{normal_form}
use Rattle.elements.specs.declared.Edition.{Edition}
use Rattle.elements.specs.Judge.{Element}
use Rattle.elements.specs.ElementRows.{bytes_in}
use Rattle.letters.specs.Letter.{letter, refusal, letter_in}
use Rattle.reading.specs.declared.Match.{Match}
use Rattle.reading.specs.declared.Side.{Side}
use Rattle.sources.specs.Places.{octets_at, origin_of}
use Rattle.sources.specs.Sources.{Source, places_for, places_from, sources_in, source_width, source_numbers}
use Rattle.sources.specs.Promise.{FromThisStream}
use Rattle.answers.specs.declared.Sourced.{Sourced}
use Rattle.answers.specs.declared.TextRead.{TextRead}
use Rattle.answers.specs.Answers.{matches_in}
use Rattle.answers.specs.Sources.{sources_lent, unsourced, sourced, SourcesOutcome}
use Rattle.answers.specs.Text.{TextOutcome}
use Rattle.promises.specs.Demands.{Answered}
use Rattle.promises_text.specs.NoStaleText.{ShowsMatch}

-- of a reading and of sources that were both answered
pub record Trace (edition : Edition) (side : Side) (s list : List ℕ) (shown : TextRead) (lines_after out_after : List ℕ) (told : Sourced) (list_after : List ℕ)
    : Type 0 where
  pub headers : ℕ
  pub elements : List Element
  pub is_letter : letter_in edition s ≡ letter headers elements
  -- the records stand in the lent list, and what is past them stays
  pub records : take (source_width * told.sources) list_after ≡ source_numbers (sources_in edition side s)
  pub past_records : drop (source_width * told.sources) list_after ≡ drop (source_width * told.sources) list
  -- what they are of a letter: the places of each line have the content of its own unit, ascend in its content fields, and none is told twice
  pub from_stream : FromThisStream edition side s headers elements
  -- the lines are those of the reading, and what stands at the places of a line is what stands between its bounds in the output
  pub same_lines : told.lines ≡ shown.lines
  pub on_screen : (k : ℕ) (m : Match) → get_elem? (matches_in edition side s) k ≡ some m
      → (shows : ShowsMatch edition side s elements shown lines_after out_after k m)
      → slice shows.line.first shows.line.past out_after ≡ octets_at s (places_from k (sources_in edition side s))
  -- all that is shown is what stands at all places, one after another
  pub whole_screen : take shown.length out_after ≡ octets_at s (places_for (sources_in edition side s))
  -- octet k of the output is the octet of the stream at its origin, which the records tell; and no octet of the stream is shown twice
  pub each_octet : let origin = origin_of (places_for (sources_in edition side s)) in
      (k : ℕ) → k < shown.length → (get_or out_after k 0 ≡ get_or s (origin k) 0) × (origin k < length s)
  pub octet_once : let origin = origin_of (places_for (sources_in edition side s)) in
      (j k : ℕ) → j < shown.length → k < shown.length → origin j ≡ origin k → j ≡ k

-- a refusal leaves the list as it was, and has no counts
pub record SourcesUntouched (list : List ℕ) (told : Sourced) (list_after : List ℕ) : Type 0 where
  pub no_lines : told.lines ≡ 0
  pub no_sources : told.sources ≡ 0
  pub list_kept : list_after ≡ list

-- a piece that is shown: its line and its octets
pub record Piece : Type 0 where
  pub line : ℕ
  pub octets : List ℕ

abbrev pub shown_pieces : (s : List ℕ) → List Source → List Piece
shown_pieces s sources = map (λ (x : Source). record { line = x.line; octets = bytes_in s x.place }) sources

-- what any program does that meets the contract of the question
pub record Traced (edition : Edition) (side : Side) : Type 0 where
  pub traces : (s table lines out list : List ℕ) (shown : TextRead) (table_after lines_after out_after : List ℕ) (told : Sourced) (list_after : List ℕ)
      → TextOutcome edition side s table lines out shown table_after lines_after out_after → shown.number ≡ 0
      → SourcesOutcome edition side s list told list_after → told.number ≡ 0
      → Trace edition side s list shown lines_after out_after told list_after
  -- what it may give, and where
  pub told : (s list : List ℕ) → Answered s (31 ∷ []) (sourced edition side s list).number (sourced edition side s list).place
  pub refused : (s list : List ℕ) (told : Sourced) (list_after : List ℕ) → SourcesOutcome edition side s list told list_after → (told.number ≡ 0 → ⊥)
      → SourcesUntouched list told list_after
  -- what rules 1 to 15 refuse is refused by that number at that place
  pub refused_alike : (s list : List ℕ) (number place headers : ℕ) → letter_in edition s ≡ refusal number place headers
      → sourced edition side s list ≡ unsourced number place
  -- so that a caller knows what to lend: as many records as the check counts headers are never too few
  pub headers_enough : (s list : List ℕ) (headers : ℕ) (elements : List Element) → letter_in edition s ≡ letter headers elements
      → headers ≤ sources_lent list → (sourced edition side s list).number ≡ 31 → ⊥
  -- the normal form shows the same pieces in the same lines
  pub normal : (s : List ℕ) (headers : ℕ) (elements : List Element) → letter_in edition s ≡ letter headers elements → length (normal_form s) ≤ stream_limit
      → shown_pieces (normal_form s) (sources_in edition side (normal_form s)) ≡ shown_pieces s (sources_in edition side s)
