-- The whole reading, case by case: what the list answered decides it, then whether all texts fit, and what is put is the texts of the list.
use mathlib.Core.Path.{◌≡◌, refl, ap, sym, ◌∙◌}
use mathlib.Core.Bool.{true, false, cond}
use mathlib.Core.Option.{some}
use mathlib.Core.List.{List, [], ◌++◌}
use Prim.Native.Nat.{ℕ, zero, suc, ◌+◌, ◌*◌, ◌≤◌}
use native.Mathlib.Omega.{arith}
use lib.Dec.{eqb, ltb}
use lib.ListN.{length, get_or, drop, get_elem?}
use lib.Seq.{sets, sets-eq}
use borrow.Author.Tests.{eqb-true, eqb-false, eq-eqb, ne_eqb, ltb-false}
use borrow.Table.Steps.{cases}
use Rattle.headers.specs.Head.{is_in}
use Rattle.runs.specs.Runs.{whole_stream, Fine}
use Rattle.elements.specs.declared.Edition.{Edition}
use Rattle.elements.specs.Judge.{Element, joined_content}
use Rattle.letters.specs.Letter.{letter, refusal, letter_in}
use Rattle.letters.specs.Lent.{rows_needed}
use Rattle.reading.specs.declared.Match.{Match}
use Rattle.reading.specs.declared.Side.{Side}
use Rattle.reading.specs.Match.{unit_kind, matches}
use Rattle.reading.specs.Records.{records}
use Rattle.reading.proofs.Made.{length-records}
use Rattle.reading.proofs.Single.{no-more-than-elements}
use Rattle.text_lines.specs.Text.{texts_of, line_numbers}
use Rattle.text_lines.specs.Flat.{records_from, lines_left, pasts, PutsTexts}
use Rattle.text_lines.proofs.Flat.{records-all, lines-all}
use Rattle.text_lines.proofs.Fits.{texts-fit}
use Rattle.letters.proofs.Table.{letter-apart}
use Rattle.answers.specs.declared.Listed.{Listed}
use Rattle.answers.specs.declared.TextRead.{TextRead}
use Rattle.answers.specs.Table.{rows_lent}
use Rattle.answers.specs.Answers.{onto, listed, matches_in, joined_in, all_of}
use Rattle.answers.specs.Text.{text_in, texts_in, lines_in, lines_lent, finishing, table_by, text_refused, text_read_from, text_read, shown_table, text_lines}
use Rattle.answers.specs.Text.{text_output, TextOutcome}
use Rattle.answers.specs.TextSteps.{FindsMatches, Listing, TextsFlat}
use Rattle.answers.proofs.Judging.{Accepting}
use Rattle.answers.proofs.Fetching.{of_unit}
use Rattle.answers.proofs.Small.{refusal-small}

-- the octets of a text by another name
pub as-text : (text own out after : List ℕ) (k : ℕ) → text ≡ own → k ≡ length own → after ≡ own ++ drop k out → (k ≡ length text) × (after ≡ text ++ drop k out)
as-text text own out after k e l p = (l ∙ ap length (sym e), p ∙ ap (λ (z : List ℕ). z ++ drop k out) (sym e))

-- no lines
no_lines : (numbers : List ℕ) → lines_left numbers 0 0 0 0 ≡ []
unfolding lines_left
no_lines numbers = refl

-- the text of a unit is its content
pub text-content : (edition : Edition) (s : List ℕ) {headers : ℕ} {elements : List Element} → letter_in edition s ≡ letter headers elements
    → (u : ℕ) (unit : Element) → get_elem? elements u ≡ some unit → unit.kind ≡ unit_kind → text_in edition s u ≡ joined_content unit.content
unfolding joined_in
text-content edition s e u unit there kind = ap (λ f. f.part) (of_unit edition s u e there kind all_of)

-- how a reading ends: all texts are put, or none
pub data Ends (answer : Listed) (needed lent : ℕ) (told : TextRead) : Type 0 where
  put_all : answer.number ≡ 0 → needed ≤ lent → told ≡ record { number = 0; place = 0; elements = answer.elements; lines = answer.matches; length = needed }
      → Ends answer needed lent told
  put_none : (told.number ≡ 0 → ⊥) → told.lines ≡ 0 → Ends answer needed lent told

pub reading-ends : (answer : Listed) (needed lent : ℕ) → Ends answer needed lent (text_read_from answer needed lent)
reading-ends answer needed lent =
    cases (eqb answer.number 0)
    (λ t.
    cases (ltb lent needed)
    (λ u.
    let e : text_read_from answer needed lent ≡ text_refused 22 0 0 = rw (t, u) in
    put_none (λ z. let n = ap (λ (r : TextRead). r.number) e in omega arith) (ap (λ (r : TextRead). r.lines) e))
    (λ u. put_all (eqb-true answer.number 0 t) (ltb-false lent needed u) (rw (t, u))))
    (λ t.
    let e : text_read_from answer needed lent ≡ text_refused answer.number answer.place answer.elements = rw t in
    put_none (λ z. eqb-false answer.number 0 t (sym (ap (λ (r : TextRead). r.number) e) ∙ z)) (ap (λ (r : TextRead). r.lines) e))

-- the table is finished only if it is after the list
finished_from : (answer : Listed) (needed lent : ℕ) → is_in (text_read_from answer needed lent).number finishing ≡ true → is_in answer.number finishing ≡ true
finished_from answer needed lent finished =
    cases (eqb answer.number 0)
    (λ t. rw (eqb-true answer.number 0 t))
    (λ t. let n : (text_read_from answer needed lent).number ≡ answer.number = rw t in sym (ap (λ (k : ℕ). is_in k finishing) n) ∙ finished)

pub finished-list : (answer : Listed) (needed lent : ℕ) {told : TextRead} → told ≡ text_read_from answer needed lent → is_in told.number finishing ≡ true
    → is_in answer.number finishing ≡ true
finished-list answer needed lent e finished =
    finished_from answer needed lent (sym (ap (λ (r : TextRead). is_in r.number finishing) e) ∙ finished)

module _ (edition : Edition) (side : Side) (s table : List ℕ) (room : ℕ) (out : List ℕ) {lent : ℕ} {answer : Listed} {flat : List ℕ}
    (same : rows_lent table ≡ lent) (l : FindsMatches edition side s lent room answer flat) where
  -- what is known of the list tells what is shown
  by-list : text_read edition side s table room out ≡ text_read_from answer (length (texts_in edition side s)) (length out)
  unfolding text_read
  by-list = ap (λ (r : Listed). text_read_from r (length (texts_in edition side s)) (length out)) (sym (l.answered table same))

  -- a refused list has no matches
  none_found : (answer.number ≡ 0 → ⊥) → answer.matches ≡ 0
  none_found Some-number =
      let stored = l.stored in
      let t : eqb answer.number 0 ≡ false = ne_eqb answer.number 0 Some-number in
      let none : records flat answer.matches ≡ [] = rw t at stored in
      sym (length-records flat answer.matches) ∙ ap length none

  module _ (zero_number : answer.number ≡ 0) where
    all-records : records flat answer.matches ≡ matches_in edition side s
    all-records = let stored = l.stored in let t : eqb answer.number 0 ≡ true = eq-eqb answer.number 0 zero_number in rw t at stored

    all-matches : records_from flat 0 answer.matches ≡ matches_in edition side s
    all-matches = records-all flat answer.matches ∙ all-records

    how-many : length (matches_in edition side s) ≡ answer.matches
    how-many = ap length (sym all-records) ∙ length-records flat answer.matches

    those-texts : {lines : ℕ} → lines ≡ answer.matches → texts_of (text_in edition s) (records_from flat 0 lines) ≡ texts_in edition side s
    unfolding texts_in
    those-texts all = ap (λ (n : ℕ). texts_of (text_in edition s) (records_from flat 0 n)) all ∙ ap (texts_of (text_in edition s)) all-matches

  -- no lines are few, and have no octets
  nothing-listed : {lines : ℕ} → lines ≡ 0 → Listing edition s flat lines
  unfolding texts_of records_from
  nothing-listed e = rw e (record { room = omega arith; few = omega arith; short = omega arith })

  module _ {rows : List ℕ} {count headers : ℕ} (a : Accepting edition s rows count headers) (fine : Fine s (whole_stream s))
      (enough : 4 * rows_needed s ≤ length flat) where
    -- there are few matches, and their texts are short
    all_listed : answer.number ≡ 0 → {lines : ℕ} → lines ≡ answer.matches → Listing edition s flat lines
    all_listed zero_number {lines} all =
        let e = a.judged in
        let is : matches_in edition side s ≡ matches side a.held.elements = rw e in
        let many : length (matches side a.held.elements) ≡ answer.matches = ap length (sym is) ∙ how-many zero_number in
        let few = no-more-than-elements a.held.elements (letter-apart a.held) side in
        let fit = texts-fit edition s fine a.held.elements a.held.judged (letter-apart a.held) (text_in edition s)
        (text-content edition s a.judged) side in
        let size : length (texts_of (text_in edition s) (records_from flat 0 lines)) ≡ length (texts_of (text_in edition s) (matches side a.held.elements)) =
        ap (λ (n : ℕ). length (texts_of (text_in edition s) (records_from flat 0 n))) all
        ∙ ap (λ (ms : List Match). length (texts_of (text_in edition s) ms)) (all-matches zero_number ∙ is) in
        record {
          room = omega (arith, a.held.holds.counted, a.needed);
          few = omega (arith, a.held.holds.counted, a.few);
          short = omega (arith, a.within_limit);
        }

    -- so they can be measured, whatever the list answers
    pub listing : {found : ℕ} → found ≡ answer.matches → Listing edition s flat found
    listing all =
        cases (eqb answer.number 0)
        (λ t. all_listed (eqb-true answer.number 0 t) all)
        (λ t. nothing-listed (all ∙ none_found (eqb-false answer.number 0 t)))

    module _ {found needed : ℕ} (all : found ≡ answer.matches) (size : needed ≡ length (texts_of (text_in edition s) (records_from flat 0 found))) where
      -- and then put, as far as they are to be
      pub puts : {told : TextRead} → Ends answer needed (length out) told → {lines : ℕ} → lines ≡ told.lines
          → Listing edition s flat lines × (length (texts_of (text_in edition s) (records_from flat 0 lines)) ≤ length out)
      unfolding texts_of records_from
      puts (put_all zero_number fits e) {lines} some-lines =
          let those : lines ≡ answer.matches = some-lines ∙ ap (λ (r : TextRead). r.lines) e in
          let again : length (texts_of (text_in edition s) (records_from flat 0 lines)) ≡ needed =
          ap (λ (n : ℕ). length (texts_of (text_in edition s) (records_from flat 0 n))) (those ∙ sym all) ∙ sym size in
          (all_listed zero_number those, omega arith)
      puts (put_none Some-number e) some-lines = let z = some-lines ∙ e in (nothing-listed z, rw z (omega arith))

  module _ {found needed : ℕ} (all : found ≡ answer.matches) (size : needed ≡ length (texts_of (text_in edition s) (records_from flat 0 found))) where
    -- the answer
    pub answer_is : text_read_from answer needed (length out) ≡ text_read edition side s table room out
    answer_is =
        cases (eqb answer.number 0)
        (λ t.
        let e : needed ≡ length (texts_in edition side s) = size ∙ ap length (those-texts (eqb-true answer.number 0 t) all) in
        ap (λ (n : ℕ). text_read_from answer n (length out)) e ∙ sym by-list)
        (λ t.
        let none : text_refused answer.number answer.place answer.elements ≡ text_read edition side s table room out = sym (by-list ∙ rw t) in
        let own : text_read_from answer needed (length out) ≡ text_refused answer.number answer.place answer.elements = rw t in
        own ∙ none)

    -- and all that was lent, at exit
    module _ {told : TextRead} (answered : told ≡ text_read edition side s table room out) {table_after : List ℕ}
        (tabled : table_after ≡ table_by edition s table told.number) where
      table_is : table_after ≡ shown_table edition side s table room out
      unfolding shown_table
      table_is = tabled ∙ ap (λ (r : TextRead). table_by edition s table r.number) answered

      pub shows : Ends answer needed (length out) told → {lines : ℕ} {numbers after : List ℕ} → lines ≡ told.lines → 4 * lines ≤ length flat
          → length numbers ≡ length flat → PutsTexts (text_in edition s) flat lines out numbers after
          → TextsFlat edition side s table room out told table_after numbers after
      unfolding text_output lines_in texts_of records_from pasts
      shows (put_none Some-number no-lines-told) {lines} {numbers} {after} some-lines room-flat long p =
          let z : lines ≡ 0 = some-lines ∙ no-lines-told in
          let t : eqb (text_read edition side s table room out).number 0 ≡ false = ne_eqb _ 0 (λ w. Some-number (ap (λ (r : TextRead). r.number) answered
          ∙ w)) in
          let u : eqb told.number 0 ≡ false = ne_eqb told.number 0 Some-number in
          let put : after ≡ out = p.put ∙ rw z in
          record {
            answered = answered;
            tabled = table_is;
            put = put ∙ rw t;
            lined = record {
              stored = rw (no-lines-told, u) (no_lines numbers);
              fits = rw no-lines-told (omega arith);
              enough = rw no-lines-told (omega arith);
            };
          }
      shows (put_all zero_number fits e) {lines} {numbers} {after} some-lines room-flat long p =
          let texts = texts_in edition side s in
          let is-matches : told.lines ≡ answer.matches = ap (λ (r : TextRead). r.lines) e in
          let those : lines ≡ answer.matches = some-lines ∙ is-matches in
          let told-zero : told.number ≡ 0 = ap (λ (r : TextRead). r.number) e in
          let t : eqb (text_read edition side s table room out).number 0 ≡ true = eq-eqb _ 0 (ap (λ (r : TextRead). r.number) (sym answered) ∙ told-zero) in
          let u : eqb told.number 0 ≡ true = eq-eqb told.number 0 told-zero in
          let in_all : needed ≡ length texts = size ∙ ap length (those-texts zero_number all) in
          let z : 0 + length texts ≡ length texts = omega arith in
          let form : sets out 0 texts ≡ onto texts out = sets-eq texts out 0 (omega arith) ∙ ap (λ (k : ℕ). texts ++ drop k out) z in
          let put : after ≡ onto texts out = p.put ∙ ap (sets out 0) (those-texts zero_number those) ∙ form in
          let ends : numbers ≡ sets flat (3 * answer.matches) (pasts (text_in edition s) 0 (matches_in edition side s)) =
          p.ended ∙ ap (λ (k : ℕ). sets flat (3 * k) (pasts (text_in edition s) 0 (records_from flat 0 k))) those
          ∙ ap (λ (ms : List Match). sets flat (3 * answer.matches) (pasts (text_in edition s) 0 ms)) (all-matches zero_number) in
          record {
            answered = answered;
            tabled = table_is;
            put = put ∙ rw t;
            lined = record {
              stored = rw (is-matches, u) (lines-all (text_in edition s) flat numbers answer.matches (matches_in edition side s)
                  (all-matches zero_number) (how-many zero_number) (omega arith) ends);
              fits = rw is-matches (omega arith);
              enough = rw is-matches l.enough;
            };
          }

told-ruled : (edition : Edition) (side : Side) (s table : List ℕ) (room : ℕ) (out : List ℕ) (number place headers : ℕ) → (number ≡ 0 → ⊥)
    → letter_in edition s ≡ refusal number place headers → text_read edition side s table room out ≡ text_refused number place 0
unfolding listed text_read
told-ruled edition side s table room out number place headers not-zero e = let t : eqb number 0 ≡ false = ne_eqb number 0 not-zero in rw (e, t)

-- what rules 1 to 15 refuse
pub text-ruled : (edition : Edition) (side : Side) (s table flat : List ℕ) (room : ℕ) (out : List ℕ) (number place headers : ℕ)
    → letter_in edition s ≡ refusal number place headers → TextsFlat edition side s table room out (text_refused number place 0) table flat out
unfolding shown_table text_output
text-ruled edition side s table flat room out number place headers e =
    let small = refusal-small edition s number place headers e in
    let some : eqb number 0 ≡ false = ne_eqb number 0 (λ z. omega arith) in
    let no-19 : eqb number 19 ≡ false = ne_eqb number 19 (λ z. omega arith) in
    let told = told-ruled edition side s table room out number place headers (λ z. omega arith) e in
    let n : (text_read edition side s table room out).number ≡ number = ap (λ (r : TextRead). r.number) told in
    record {
      answered = sym told;
      tabled = rw (n, some, no-19);
      put = rw (n, some);
      lined = record { stored = rw some (no_lines flat); fits = omega arith; enough = omega arith };
    }

left-length : (numbers : List ℕ) (count k left first : ℕ) → length (lines_left numbers count k left first) ≡ 5 * left
unfolding lines_left
left-length numbers count k zero first = refl
left-length numbers count k (suc n) first = let l = left-length numbers count (suc k) n (get_or numbers (3 * count + k) 0) in omega arith

-- the lines that were answered, in front of what was lent, are the lines at exit
pub lines-put : (edition : Edition) (side : Side) (s table lines out : List ℕ) {answer : TextRead} {table_after numbers out_after lines_after : List ℕ}
    → TextsFlat edition side s table (lines_lent lines) out answer table_after numbers out_after
    → lines_after ≡ sets lines 0 (lines_left numbers answer.lines 0
    answer.lines 0) → TextOutcome edition side s table lines out answer table_after lines_after out_after
unfolding text_lines
lines-put edition side s table lines out {answer} {table_after} {numbers} {out_after} {lines_after} f e =
    let told : eqb (text_read edition side s table (lines_lent lines) out).number 0 ≡ eqb answer.number 0 = ap
    (λ (a : TextRead). eqb a.number 0) (sym f.answered) in
    let stored = f.lined.stored in
    let all = line_numbers (lines_in edition side s) in
    let filled : lines_after ≡ cond (eqb answer.number 0) (onto all lines) lines =
    cases (eqb answer.number 0)
    (λ t.
    let is_all : lines_left numbers answer.lines 0 answer.lines 0 ≡ all = rw t at stored in
    let size = ap length is_all in
    let long = left-length numbers answer.lines 0 answer.lines 0 in
    let z : 0 + length all ≡ length all = omega arith in
    rw t (e ∙ ap (sets lines 0) is_all ∙ sets-eq all lines 0 (omega (arith, f.lined.enough)) ∙ ap (λ (k : ℕ). all ++ drop k lines) z))
    (λ t. let none_left : lines_left numbers answer.lines 0 answer.lines 0 ≡ [] = rw t at stored in rw t (e ∙ ap (sets lines 0) none_left)) in
    record { answered = f.answered; tabled = f.tabled; filled = filled ∙ rw told; put = f.put }
