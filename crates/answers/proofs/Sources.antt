-- What is known once a stream is walked and judged, and its matches are listed: their sources are those of the side, and few enough.
use mathlib.Core.Path.{◌≡◌, ap, sym, ◌∙◌}
use mathlib.Core.Bool.{true, false}
use mathlib.Core.List.{List}
use Prim.Native.Nat.{ℕ, ◌<◌, ◌≤◌}
use native.Mathlib.Omega.{arith}
use borrow.Author.Tests.{ne_eqb, lt-ltb, le-ltb}
use lib.Dec.{eqb, ltb}
use lib.ListN.{length}
use Rattle.octets.specs.Walk.{stream_limit}
use Rattle.elements.specs.declared.Edition.{Edition}
use Rattle.elements.specs.Judge.{most_elements}
use Rattle.letters.specs.Letter.{refusal, letter_in}
use Rattle.letters.proofs.Table.{letter-apart}
use Rattle.reading.specs.declared.Side.{Side}
use Rattle.reading.specs.Records.{ListsMatches}
use Rattle.reading.proofs.Scratch.{lists-records}
use Rattle.reading.proofs.Single.{no-more-than-elements}
use Rattle.text_lines.specs.Flat.{records_from}
use Rattle.text_lines.proofs.Flat.{records-all}
use Rattle.sources.specs.Sources.{Source, sources_from, sources_in, source_numbers}
use Rattle.sources.specs.Units.{places_in}
use Rattle.sources.specs.Steps.{LinesListed}
use Rattle.sources.proofs.Promise.{sources-are, sources-short}
use Rattle.answers.specs.Answers.{onto}
use Rattle.answers.specs.Sources.{sources_lent, unsourced, sourced, sourced_list, SourcesOutcome}
use Rattle.answers.proofs.Judging.{Accepting}
use Rattle.answers.proofs.Small.{refusal-small}

-- 1 to 15
pub sources-refused : (edition : Edition) (side : Side) (s list : List ℕ) (number place headers : ℕ) → letter_in edition s ≡ refusal number place headers
    → SourcesOutcome edition side s list (unsourced number place) list
unfolding sourced sourced_list
sources-refused edition side s list number place headers e =
    let low = (refusal-small edition s number place headers e).low in
    let some_number : eqb number 0 ≡ false = ne_eqb number 0 (λ z. omega arith) in
    record { answered = rw e; filled = rw (e, some_number) }

module _ {edition : Edition} {s rows : List ℕ} {count headers : ℕ} (l : Accepting edition s rows count headers)
    (side : Side) {before numbers : List ℕ} {lines : ℕ} (lists : ListsMatches side l.held.elements before numbers lines) where
  abbrev listed : List Source
  listed = sources_from (places_in edition s) 0 (records_from numbers 0 lines)

  listed-all : listed ≡ sources_in edition side s
  listed-all =
      ap (sources_from (places_in edition s) 0) (records-all numbers lines ∙ lists-records lists)
      ∙ sym (sources-are edition side s headers l.held.elements l.judged)

  pub few-lines : lines ≤ most_elements
  few-lines =
      let few = no-more-than-elements l.held.elements (letter-apart l.held) side in
      omega (arith, l.few, lists.counted, l.held.holds.counted)

  pub few-sources : length listed ≤ stream_limit
  few-sources =
      let short = sources-short edition side s headers l.held.elements l.judged in
      let same = ap length listed-all in
      omega (arith, l.within_limit)

  pub all_listed : LinesListed edition s numbers lines
  all_listed = record { room = lists.fits; few = few-lines; short = few-sources }

  -- 31
  pub too_short : (list : List ℕ) → sources_lent list < length listed → SourcesOutcome edition side s list (unsourced 31 0) list
  unfolding sourced sourced_list
  too_short list less =
      let same = ap length listed-all in
      let all = length (sources_in edition side s) in
      let letter = l.judged in
      let t : ltb (sources_lent list) all ≡ true = lt-ltb (sources_lent list) all (omega arith) in
      record { answered = rw (letter, t); filled = rw (letter, t) }

  -- all are put
  pub put_all : (list after : List ℕ) (total : ℕ) → total ≡ length listed → total ≤ sources_lent list → after ≡ onto (source_numbers listed) list
      → SourcesOutcome edition side s list (record { number = 0; place = 0; lines = lines; sources = total }) after
  unfolding sourced sourced_list
  put_all list after total size room e =
      let same = ap length listed-all in
      let all = length (sources_in edition side s) in
      let letter = l.judged in
      let t : ltb (sources_lent list) all ≡ false = le-ltb (sources_lent list) all (omega arith) in
      let many = lists.counted in
      let every : total ≡ all = size ∙ same in
      let put = e ∙ ap (λ (xs : List Source). onto (source_numbers xs) list) listed-all in
      record { answered = rw (letter, t, many, every); filled = put ∙ rw (letter, t) }
