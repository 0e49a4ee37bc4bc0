-- The lister's answer, table and numbers, case by case: what the stream is decides them, and the matches were counted before.
use mathlib.Core.Path.{◌≡◌, refl, ap, sym, ◌∙◌}
use mathlib.Core.Bool.{true, false, true≢false}
use mathlib.Core.List.{List, [], ◌++◌}
use Prim.Native.Nat.{ℕ, ◌<◌, ◌≤◌}
use native.Mathlib.Omega.{arith}
use lib.Dec.{eqb, ltb}
use lib.ListN.{length, drop}
use borrow.Author.Tests.{ne_eqb, lt-ltb, le-ltb, ltb-false}
use borrow.Table.Steps.{cases}
use Rattle.headers.specs.Head.{is_in}
use Rattle.elements.specs.declared.Edition.{Edition}
use Rattle.elements.specs.Judge.{Element}
use Rattle.letters.specs.Letter.{letter, refusal, letter_in}
use Rattle.reading.specs.declared.Match.{Match}
use Rattle.reading.specs.declared.Side.{Side}
use Rattle.reading.specs.Match.{matches}
use Rattle.reading.specs.Records.{records, ListsMatches}
use Rattle.reading.proofs.Made.{length-records}
use Rattle.reading.proofs.Scratch.{lists-records}
use Rattle.answers.specs.declared.Listed.{Listed}
use Rattle.answers.specs.Table.{rows_lent, too_few_rows}
use Rattle.answers.specs.Answers.{listed, listed_table, matches_in, listed_list}
use Rattle.answers.specs.Asking.{ListsFlat}
use Rattle.answers.specs.Text.{finishing, table_by}
use Rattle.answers.specs.TextSteps.{FindsMatches}
use Rattle.answers.proofs.Small.{refusal-small}

-- no records
no-records : (flat : List ℕ) → records flat 0 ≡ []
unfolding records
no-records flat = refl

module _ (edition : Edition) (side : Side) (s table flat : List ℕ) (room : ℕ) where
  pub lists-refused : (number place headers : ℕ) → letter_in edition s ≡ refusal number place headers
      → ListsFlat edition side s table room (record { number = number; place = place; elements = 0; matches = 0 }) table flat
  unfolding listed listed_table
  lists-refused number place headers e =
      let small = refusal-small edition s number place headers e in
      let some : eqb number 0 ≡ false = ne_eqb number 0 (λ z. omega arith) in
      let no-19 : eqb number 19 ≡ false = ne_eqb number 19 (λ z. omega arith) in
      record { answered = rw e; tabled = rw (e, some, no-19); stored = rw some (no-records flat); fits = omega arith; enough = omega arith }

-- before the table is written
module _ (edition : Edition) (side : Side) (s flat : List ℕ) (lent room : ℕ) (headers : ℕ) (elements : List Element)
    (e : letter_in edition s ≡ letter headers elements) where
  pub finds-16 : lent < length elements → FindsMatches edition side s lent room (record { number = 16; place = 0; elements = 0; matches = 0 }) flat
  unfolding listed
  finds-16 few =
      record {
        answered = λ table same. let t : ltb (rows_lent table) (length elements) ≡ true = lt-ltb (rows_lent table) (length elements) (omega arith) in rw (e, t);
        stored = no-records flat;
        fits = omega arith;
        enough = omega arith;
      }

  module _ (count : ℕ) (counted : length elements ≡ count) (enough-rows : count ≤ lent) (before : List ℕ) (m : ℕ)
      (lists : ListsMatches side elements before flat m) where
    rows-enough : (table : List ℕ) → rows_lent table ≡ lent → ltb (rows_lent table) (length elements) ≡ false
    rows-enough table same = le-ltb (rows_lent table) (length elements) (omega arith)

    pub finds-19 : room < m → FindsMatches edition side s lent room (record { number = 19; place = 0; elements = count; matches = 0 }) flat
    unfolding listed
    finds-19 short =
        let u : ltb room (length (matches side elements)) ≡ true = lt-ltb room (length (matches side elements)) (omega (arith, lists.counted)) in
        record { answered = λ table same. rw (e, rows-enough table same, u, counted); stored = no-records flat; fits = omega arith; enough = omega arith }

    pub finds-letter : m ≤ room → FindsMatches edition side s lent room (record { number = 0; place = 0; elements = count; matches = m }) flat
    unfolding listed
    finds-letter enough =
        let u : ltb room (length (matches side elements)) ≡ false = le-ltb room (length (matches side elements)) (omega (arith, lists.counted)) in
        let c = lists.counted in
        record {
          answered = λ table same. rw (e, rows-enough table same, u, counted, c);
          stored = lists-records lists ∙ rw e;
          fits = lists.fits;
          enough = enough;
        }

module _ (edition : Edition) (side : Side) (s table : List ℕ) (room : ℕ) {lent : ℕ} {answer : Listed} {flat : List ℕ} (same : rows_lent table ≡ lent)
    (l : FindsMatches edition side s lent room answer flat) where
  -- the table has rows enough if it is finished: 16 is none of the numbers with which it is
  pub finished-rows : {headers : ℕ} {elements : List Element} → letter_in edition s ≡ letter headers elements → is_in answer.number finishing ≡ true
      → length elements ≤ rows_lent table
  unfolding listed
  finished-rows {headers} {elements} e finished =
      cases (too_few_rows table elements)
      (λ t.
      let n : answer.number ≡ 16 = ap (λ (r : Listed). r.number) (l.answered table same) ∙ rw (e, t) in
      absurd (true≢false (sym finished ∙ ap (λ (k : ℕ). is_in k finishing) n)))
      (λ t. ltb-false (rows_lent table) (length elements) t)

  -- and with the table at exit
  pub lists-finished : {after : List ℕ} → after ≡ table_by edition s table answer.number → ListsFlat edition side s table room answer after flat
  unfolding listed_table
  lists-finished e = record {
    answered = l.answered table same;
    tabled = e ∙ ap (λ (r : Listed). table_by edition s table r.number) (l.answered table same);
    stored = l.stored;
    fits = l.fits;
    enough = l.enough;
  }

-- the records that were answered, in front of what the list held, are the list at exit
pub listed-list : (list : List Match) {edition : Edition} {side : Side} {s table : List ℕ} {answer : Listed} {after flat : List ℕ}
    → ListsFlat edition side s table (length list) answer after flat
    → records flat answer.matches ++ drop answer.matches list ≡ listed_list edition side s table list
unfolding listed_list
listed-list list {edition} {side} {s} {table} {answer} {after} {flat} l =
    let n = answer.matches in
    let told : eqb (listed edition side s table (length list)).number 0 ≡ eqb answer.number 0 = ap (λ (a : Listed). eqb a.number 0)
    (sym l.answered) in
    let size = length-records flat n in
    let stored = l.stored in
    cases (eqb answer.number 0)
    (λ t.
    let all : records flat n ≡ matches_in edition side s = rw t at stored in
    let many : n ≡ length (matches_in edition side s) = sym size ∙ ap length all in
    rw (told, t, all) (ap (λ (k : ℕ). matches_in edition side s ++ drop k list) many))
    (λ t.
    let no : records flat n ≡ [] = rw t at stored in
    let zero-matches : n ≡ 0 = sym size ∙ ap length no in
    rw (told, t, no) (ap (λ (k : ℕ). drop k list) zero-matches))
