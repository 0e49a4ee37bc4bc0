-- The sources and the whole reading go together: what stands at all places is all that is shown, and line by line what stands at the places of the line is
-- the content of its unit, which is what the line shows. The pieces are told by the tree, so the normal form shows the same.
use mathlib.Core.Path.{◌≡◌, refl, ap, ap₂, sym, ◌∙◌, subst}
use mathlib.Core.Bool.{true, false}
use mathlib.Core.List.{List, [], ◌∷◌, ◌++◌, map}
use mathlib.Core.Option.{some}
use Prim.Native.Nat.{ℕ, suc, ◌*◌, ◌<◌, ◌≤◌}
use native.Mathlib.Omega.{arith}
use borrow.Author.Tests.{eq-eqb, ne_eqb, le-ltb}
use borrow.Table.Steps.{cases}
use lib.Dec.{eqb, ltb}
use lib.ListN.{length, take, drop, get_or, get_elem?}
use lib.Seq.{take_at, drop_at, get_or-take}
use Rattle.laws.proofs.Tests.{cond-holds}
use Rattle.octets.specs.Walk.{stream_limit}
use Rattle.contents.specs.declared.Span.{Span}
use Rattle.normal.specs.Normal.{normal_form}
use Rattle.elements.specs.declared.Edition.{Edition}
use Rattle.elements.specs.Judge.{joined_content, Element}
use Rattle.elements.specs.ElementRows.{bytes_in}
use Rattle.letters.specs.Letter.{Letter, letter, refusal, letter_in}
use Rattle.reading.specs.declared.Match.{Match}
use Rattle.reading.specs.declared.Side.{Side}
use Rattle.reading.specs.Match.{matches}
use Rattle.text_lines.specs.Text.{texts_of}
use Rattle.sources.specs.Places.{octets_at}
use Rattle.sources.specs.Sources.{Source, line_sources, sources_from, places_for, source_numbers, sources_in}
use Rattle.sources.specs.Units.{places_in}
use Rattle.sources.proofs.Sides.{source-length}
use Rattle.sources.proofs.Promise.{sources-are, from-this-stream}
use Rattle.answers.specs.declared.Sourced.{Sourced}
use Rattle.answers.specs.Answers.{matches_in}
use Rattle.answers.specs.Sources.{sources_lent, sourced_by, sourced, sourced_list, SourcesOutcome}
use Rattle.answers.specs.Text.{text_in, texts_in}
use Rattle.answers.proofs.Small.{refusal-small}
use Rattle.answers.proofs.Sources.{sources-refused}
use Rattle.answers.proofs.TextSteps.{text-content}
use Rattle.promises.specs.Demands.{Answered}
use Rattle.promises.proofs.Demand1.{told-small, told-own, told-zero}
use Rattle.promises.proofs.Demand2.{normal_accepted, normal_tree}
use Rattle.promises_text.specs.Sources.{Piece, shown_pieces, SourcesUntouched, Traced}
use Rattle.promises_text.proofs.Kept.{shown_at, whole-items, same-shown}
use Rattle.promises_text.proofs.NoStaleText.{how-long, no-stale-text}

-- ---- what may be answered, and what a refusal leaves

abbrev Counts : Sourced → Type 0
Counts a = (a.number ≡ 0 → ⊥) → (a.lines ≡ 0) × (a.sources ≡ 0)

module _ (edition : Edition) (side : Side) (s list : List ℕ) where
  told-if : (l : Letter) → letter_in edition s ≡ l → (all : List Source) (lent : ℕ)
      → Answered s (31 ∷ []) (sourced_by side l all lent).number (sourced_by side l all lent).place
  told-if (letter headers elements) e all lent =
      let P : Sourced → Type 0 = λ a. Answered s (31 ∷ []) a.number a.place in
      cond-holds P (ltb lent (length all)) (λ _. told-own s (31 ∷ []) 31 refl) (λ _. told-zero s (31 ∷ []))
  told-if (refusal number place headers) e all lent = told-small (31 ∷ []) (refusal-small edition s number place headers e)

  told-answer : Answered s (31 ∷ []) (sourced edition side s list).number (sourced edition side s list).place
  unfolding sourced
  told-answer = told-if (letter_in edition s) refl (sources_in edition side s) (sources_lent list)

  counts-if : (l : Letter) (all : List Source) (lent : ℕ) → Counts (sourced_by side l all lent)
  counts-if (letter headers elements) all lent =
      cond-holds Counts (ltb lent (length all)) (λ _ _. (refl, refl)) (λ _ n. absurd (n refl))
  counts-if (refusal number place headers) all lent = λ _. (refl, refl)

  -- sources of a letter that were answered
  module _ (headers : ℕ) (elements : List Element) (e : letter_in edition s ≡ letter headers elements) where
    abbrev all : List Source
    all = sources_in edition side s

    answer_is : (sourced edition side s list).number ≡ 0
        → sourced edition side s list ≡ record { number = 0; place = 0; lines = length (matches side elements); sources = length all }
    unfolding sourced
    answer_is zero_number =
        cases (ltb (sources_lent list) (length all))
        (λ t. let n : (sourced edition side s list).number ≡ 31 = rw (e, t) in absurd (omega arith))
        (λ t. rw (e, t))

    not-31 : headers ≤ sources_lent list → (sourced edition side s list).number ≡ 31 → ⊥
    unfolding sourced
    not-31 enough n =
        let few = (from-this-stream edition side s headers elements e).headers_enough in
        let t : ltb (sources_lent list) (length all) ≡ false = le-ltb (sources_lent list) (length all) (omega arith) in
        let z : (sourced edition side s list).number ≡ 0 = rw (e, t) in
        omega arith

  module _ (told : Sourced) (list_after : List ℕ) (outcome : SourcesOutcome edition side s list told list_after) where
    refused : (told.number ≡ 0 → ⊥) → SourcesUntouched list told list_after
    unfolding sourced sourced_list
    refused Some-number =
        let n : told.number ≡ (sourced edition side s list).number = ap (λ (r : Sourced). r.number) outcome.answered in
        let t : eqb (sourced edition side s list).number 0 ≡ false = ne_eqb _ 0 (λ z. Some-number (n ∙ z)) in
        let counts = counts-if (letter_in edition s) (sources_in edition side s) (sources_lent list) in
        let (no_lines, no_sources) = subst Counts (sym outcome.answered) counts Some-number in
        record { no_lines = no_lines; no_sources = no_sources; list_kept = outcome.filled ∙ rw t }

    list_is : told.number ≡ 0 → let numbers = source_numbers (sources_in edition side s) in list_after ≡ numbers ++ drop (length numbers) list
    unfolding sourced_list
    list_is zero_number =
        let t : eqb (sourced edition side s list).number 0 ≡ true = eq-eqb _ 0 (ap (λ (r : Sourced). r.number) (sym outcome.answered) ∙ zero_number) in
        outcome.filled ∙ rw t

-- ---- the pieces of a letter, by its tree

-- the pieces of lines, if each unit shows these
unfoldable line_pieces : (shown : ℕ → List (List ℕ)) → (line : ℕ) → List Match → List Piece
line_pieces shown line [] = []
line_pieces shown line (m ∷ ms) = map (λ (octets : List ℕ). record { line = line; octets = octets }) (shown m.unit) ++ line_pieces shown (suc line) ms

pieces-append : (s : List ℕ) (xs ys : List Source) → shown_pieces s (xs ++ ys) ≡ shown_pieces s xs ++ shown_pieces s ys
pieces-append s [] ys = refl
pieces-append s (x ∷ xs) ys = ap (λ (z : List Piece). record { line = x.line; octets = bytes_in s x.place } ∷ z) (pieces-append s xs ys)

line-pieces : (s : List ℕ) (line : ℕ) (ps : List Span)
    → shown_pieces s (line_sources line ps) ≡ map (λ (octets : List ℕ). record { line = line; octets = octets }) (shown_at s ps)
unfolding line_sources
line-pieces s line [] = refl
line-pieces s line (p ∷ ps) = ap (λ (z : List Piece). record { line = line; octets = bytes_in s p } ∷ z) (line-pieces s line ps)

pieces-from : (s : List ℕ) (places : ℕ → List Span) (line : ℕ) (ms : List Match)
    → shown_pieces s (sources_from places line ms) ≡ line_pieces (λ u. shown_at s (places u)) line ms
unfolding sources_from line_pieces
pieces-from s places line [] = refl
pieces-from s places line (m ∷ ms) =
    pieces-append s (line_sources line (places m.unit)) (sources_from places (suc line) ms)
    ∙ ap₂ (λ (own more : List Piece). own ++ more) (line-pieces s line (places m.unit)) (pieces-from s places (suc line) ms)

same-pieces : (f g : ℕ → List (List ℕ)) → ((u : ℕ) → f u ≡ g u) → (line : ℕ) (ms : List Match) → line_pieces f line ms ≡ line_pieces g line ms
unfolding line_pieces
same-pieces f g same line [] = refl
same-pieces f g same line (m ∷ ms) =
    ap₂ (λ (own more : List Piece). own ++ more) (ap (map (λ (octets : List ℕ). record { line = line; octets = octets })) (same m.unit))
    (same-pieces f g same (suc line) ms)

normal-pieces : (edition : Edition) (side : Side) (s : List ℕ) (headers : ℕ) (elements : List Element) → letter_in edition s ≡ letter headers elements
    → length (normal_form s) ≤ stream_limit → shown_pieces (normal_form s) (sources_in edition side (normal_form s)) ≡ shown_pieces s (sources_in edition side s)
normal-pieces edition side s headers elements e within =
    let form = normal_form s in
    let f = normal_accepted edition s headers elements e within in
    let ms = matches side elements in
    let same = same-shown edition s form (whole-items edition s headers elements e) (whole-items edition form headers elements f)
    (normal_tree edition s headers elements e) in
    ap (shown_pieces form) (sources-are edition side form headers elements f) ∙ pieces-from form (places_in edition form) 0 ms
    ∙ same-pieces (λ u. shown_at form (places_in edition form u)) (λ u. shown_at s (places_in edition s u)) same 0 ms
    ∙ sym (ap (shown_pieces s) (sources-are edition side s headers elements e) ∙ pieces-from s (places_in edition s) 0 ms)

-- ---- the promise

pub traced : (edition : Edition) (side : Side) → Traced edition side
unfolding texts_in
traced edition side = record {
  traces = λ s table lines out list shown table_after lines_after out_after told list_after reading zero-shown tracing zero-told.
      let screen = (no-stale-text edition side).shows s table lines out shown table_after lines_after out_after reading zero-shown in
      let e = screen.is_letter in
      let headers = screen.headers in
      let elements = screen.elements in
      let from = from-this-stream edition side s headers elements e in
      let places = places_for (sources_in edition side s) in
      let numbers = source_numbers (sources_in edition side s) in
      let same-matches : matches_in edition side s ≡ matches side elements = rw e in
      let octets : texts_in edition side s ≡ octets_at s places =
      ap (texts_of (text_in edition s)) same-matches ∙ sym (from.all_octets (text_in edition s) (text-content edition s e)) in
      let here : take shown.length out_after ≡ octets_at s places = screen.all_octets ∙ octets in
      let long : shown.length ≡ length (octets_at s places) =
      how-long edition side s table lines out shown table_after lines_after out_after reading zero-shown ∙ ap length octets in
      let list-now = list_is edition side s list told list_after tracing zero-told in
      let answer : told ≡ record { number = 0; place = 0; lines = length (matches side elements); sources = length (sources_in edition side s) } =
      tracing.answered ∙ answer_is edition side s list headers elements e (ap (λ (x : Sourced). x.number) (sym tracing.answered) ∙ zero-told) in
      let how-many : 3 * told.sources ≡ length numbers = ap (λ (x : Sourced). 3 * x.sources) answer ∙ sym (source-length (sources_in edition side s)) in
      record {
        headers = headers;
        elements = elements;
        is_letter = e;
        records = rw (how-many, list-now) (take_at numbers (drop (length numbers) list) (length numbers) refl);
        past_records = rw (how-many, list-now) (drop_at numbers (drop (length numbers) list) (length numbers) refl);
        from_stream = from;
        same_lines = ap (λ (x : Sourced). x.lines) answer ∙ ap length (sym same-matches) ∙ sym screen.all_lines;
        on_screen = λ k m there shows.
            let own = from.each_line k m (subst (λ (ms : List Match). get_elem? ms k ≡ some m) same-matches there) in
            let a = shows.is_match.unit_there in
            let b = own.is_match.unit_there in
            let same : shows.is_match.unit ≡ own.is_match.unit = cc in
            shows.text ∙ ap (λ (x : Element). joined_content x.content) same ∙ sym own.text;
        whole_screen = here;
        each_octet = λ k l.
            let inside : k < length (octets_at s places) = omega arith in
            let o = from.each_octet k inside in
            (sym (get_or-take shown.length out_after k 0 l) ∙ ap (λ (xs : List ℕ). get_or xs k 0) here ∙ o.0, o.1);
        octet_once = λ j k l m same.
            let a : j < length (octets_at s places) = omega arith in
            let b : k < length (octets_at s places) = omega arith in
            from.octet_once j k a b same;
      };
  told = told-answer edition side;
  refused = λ s list told list_after outcome Some-number. refused edition side s list told list_after outcome Some-number;
  refused_alike = λ s list number place headers e. sym (sources-refused edition side s list number place headers e).answered;
  headers_enough = λ s list headers elements e enough n. not-31 edition side s list headers elements e enough n;
  normal = normal-pieces edition side;
}
