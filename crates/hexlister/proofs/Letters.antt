-- What the questions' answers give to print: by the demands on them, an accepted stream has no more elements than the table rows, no more
-- matches than elements, and a row for each.
use mathlib.Core.Path.{◌≡◌, refl, sym, ap, ap₂, ◌∙◌}
use mathlib.Core.Bool.{true, false}
use mathlib.Core.List.{List, [], ◌∷◌, ◌++◌}
use mathlib.Core.Option.{some}
use Prim.Native.Nat.{ℕ, suc, ◌+◌, ◌*◌, ◌/◌, ◌≤◌}
use native.Mathlib.Omega.{arith}
use lib.Dec.{eqb, ltb}
use lib.ListN.{length, take, get_or, get_elem?, length-replicate, length-append, drop, length-drop}
use lib.Seq.{take-append_seam}
use borrow.Author.Tests.{ltb-false, eq-eqb, ne_eqb}
use borrow.Table.Steps.{cases}
use Rattle.lister_text.specs.Lines.{element, refused}
use Rattle.rows.specs.Columns.{whole_column}
use Rattle.answers.specs.Table.{table_width, table_numbers}
use Rattle.answers.proofs.Tabling.{cell-there, table-length}
use Rattle.elements.specs.declared.Row.{Row}
use Rattle.elements.specs.declared.Edition.TheVariants.{Of1988}
use Rattle.elements.specs.Judge.{Element}
use Rattle.letters.specs.Letter.{Letter, letter, refusal, letter_in, rows_in}
use Rattle.letters.proofs.Apart.{accepted-apart}
use Rattle.reading.specs.declared.Match.{Match}
use Rattle.reading.specs.declared.Side.{Side}
use Rattle.reading.specs.Match.{matches}
use Rattle.reading.proofs.Single.{no-more-than-elements}
use Rattle.answers.specs.declared.Checked.{Checked}
use Rattle.answers.specs.declared.Listed.{Listed}
use Rattle.answers.specs.Answers.{elements_by, elements_in, onto, table_of, checked, checked_by, matches_in, CheckOutcome, ListOutcome}
use Rattle.answers.proofs.Small.{refusal-small}
use Rattle.letters.proofs.Letters.{letter-found}
use Rattle.promises.proofs.Demand2.{demand2}
use Rattle.promises.proofs.Demand3.{demand3}
use Rattle.hexlister.specs.Output.{rows_lent, records_lent, table_room, lent_table, no_record, lent_list, element_lines, accepted_lines, stream_lines}
use Rattle.hexlister.specs.Pages.{row_line, row_lines}

-- a stream that is accepted on the lent table
pub record Accepted (s : List ℕ) : Type 0 where
  pub headers : ℕ
  pub elements : List Element
  pub judged : letter_in Of1988 s ≡ letter headers elements
  pub few : length elements ≤ rows_lent

module _ (s : List ℕ) where
  by_rows : (headers : ℕ) (elements : List Element) → letter_in Of1988 s ≡ letter headers elements → (checked_by
      (letter headers elements) lent_table).number ≡ 0 → Accepted s
  by_rows headers elements e =
      cases (ltb (length lent_table / table_width) (length elements))
      (λ t. rw t (λ n. absurd (omega arith)))
      (λ t n.
      let rows : length lent_table / table_width ≡ rows_lent = ap (λ (k : ℕ). k / table_width) (length-replicate {A = ℕ} table_room 0) in
      record { headers = headers; elements = elements; judged = e; few = omega (arith, ltb-false (length lent_table / table_width) (length elements) t) })

  by-letter : (l : Letter) → letter_in Of1988 s ≡ l → (checked_by l lent_table).number ≡ 0 → Accepted s
  by-letter (refusal number place headers) e n = absurd (omega (arith, (refusal-small Of1988 s number place headers e).low))
  by-letter (letter headers elements) e n = by_rows headers elements e n

  pub accepted-on : (checked Of1988 s lent_table).number ≡ 0 → Accepted s
  unfolding checked
  accepted-on n = by-letter (letter_in Of1988 s) refl n

-- the lines of the elements, by their rows in the table
module _ (table : List ℕ) (all : List Row) (lines : (j : ℕ) (row : Row) → get_elem? all j ≡ some row → row_line table j ≡ element j row.whole.first
    row.whole.past row.kind) where
  lines_from : (k : ℕ) (rows : List Row) → ((i : ℕ) → get_elem? rows i ≡ get_elem? all (k + i)) → row_lines table k (length rows) ≡ element_lines k rows
  unfolding row_lines element_lines
  lines_from k [] at = refl
  lines_from k (row ∷ rows) at =
      let first : k + 0 ≡ k = omega arith in
      let here : get_elem? all k ≡ some row = ap (get_elem? all) (sym first) ∙ sym (at 0) in
      let onward : (i : ℕ) → get_elem? rows i ≡ get_elem? all (suc k + i) = λ i. let next : k + suc i ≡ suc k + i = omega arith in at (suc i)
      ∙ ap (get_elem? all) next in
      ap₂ (λ (l m : List ℕ). l ++ m) (lines k row here) (lines_from (suc k) rows onward)

module _ (elements : List Element) (rows : List Row) (rest : List ℕ) where
  abbrev table : List ℕ
  table = table_numbers elements rows ++ rest

  row-line : (j : ℕ) (row : Row) → get_elem? rows j ≡ some row → row_line table j ≡ element j row.whole.first row.whole.past row.kind
  row-line j row stands =
      let start : j * table_width ≡ j * table_width + 0 = omega arith in
      let next : j * table_width + whole_column + 1 ≡ j * table_width + 3 = omega arith in
      let cell = cell-there elements 0 rows rest j row stands in
      let kind : get_or table (j * table_width) 0 ≡ row.kind = ap (λ (i : ℕ). get_or table i 0) start ∙ cell 0 (omega arith) in
      let first : get_or table (j * table_width + whole_column) 0 ≡ row.whole.first = cell whole_column (omega arith) in
      let past : get_or table (j * table_width + whole_column + 1) 0 ≡ row.whole.past = ap (λ (i : ℕ). get_or table i 0) next ∙ cell 3 (omega arith) in
      rw (first, past, kind)

  pub table-lines : row_lines table 0 (length rows) ≡ element_lines 0 rows
  table-lines = lines_from table rows row-line 0 rows (λ i. let e : i ≡ 0 + i = omega arith in ap (get_elem? rows) e)

-- the list of a side, asked on a table and a list as they are lent
pub record Listing (side : Side) (s : List ℕ) (answer : Listed) (records : List Match) : Type 0 where
  pub count : answer.matches ≡ length (matches_in Of1988 side s)
  pub few : answer.matches ≤ records_lent
  pub first : take answer.matches records ≡ matches_in Of1988 side s

pub lists-all :
    (side : Side) (s table : List ℕ) {answer : Listed} {table_after : List ℕ} {records : List Match} →
    (checked Of1988 s lent_table).number ≡ 0 →
    length table ≡ table_room →
    ListOutcome Of1988 side s table lent_list answer table_after records →
    Listing side s answer records
lists-all side s table {answer} {table_after} {records} n full o =
    let a = accepted-on s n in
    let e = a.judged in
    let rows : length table / table_width ≡ rows_lent = ap (λ (k : ℕ). k / table_width) full in
    let found = letter-found Of1988 s a.headers a.elements e in
    let same : matches_in Of1988 side s ≡ matches side a.elements = rw e in
    let below : length (matches_in Of1988 side s) ≤ length a.elements = rw same
    (no-more-than-elements a.elements (accepted-apart Of1988 _ _ found.judged) side) in
    let room : length lent_list ≡ records_lent = length-replicate records_lent no_record in
    let given = ((demand3 Of1988).of_letter side s a.headers a.elements e).lists table lent_list (omega (arith, a.few)) (omega (arith, a.few)) in
    let count : answer.matches ≡ length (matches_in Of1988 side s) = ap (λ (r : Listed). r.matches) (o.answered ∙ given.0) in
    record { count = count; few = omega (arith, a.few); first = rw (o.filled, given.2, count) (take-append_seam (matches_in Of1988 side s) _) }

-- the check's answer, and the table as it leaves it
pub record Checking (s : List ℕ) (answer : Checked) (table : List ℕ) : Type 0 where
  pub accepted : (checked Of1988 s lent_table).number ≡ 0
  pub few : answer.elements ≤ rows_lent
  pub full : length table ≡ table_room
  pub lines : row_lines table 0 answer.elements ≡ element_lines 0 (rows_in Of1988 s)

pub checks-all : (s : List ℕ) {answer : Checked} {table : List ℕ} → answer.number ≡ 0 → CheckOutcome Of1988 s lent_table answer table → Checking s answer table
checks-all s {answer} {table} zero_number o =
    let n : (checked Of1988 s lent_table).number ≡ 0 = ap (λ (r : Checked). r.number) (sym o.answered) ∙ zero_number in
    let a = accepted-on s n in
    let d = (demand2 Of1988).of_letter s a.headers a.elements a.judged in
    let all : length lent_table ≡ table_room = length-replicate {A = ℕ} table_room 0 in
    let rows : length lent_table / table_width ≡ rows_lent = ap (λ (k : ℕ). k / table_width) all in
    let given = d.checks lent_table (omega (arith, a.few)) in
    let count : answer.elements ≡ length (rows_in Of1988 s) = ap (λ (r : Checked). r.elements) (o.answered ∙ given.0) ∙ sym d.rows_counted in
    let kept : table ≡ table_of Of1988 s lent_table = o.tabled ∙ given.1 in
    let own : elements_in Of1988 s ≡ a.elements = ap elements_by a.judged in
    let all_numbers = table_numbers a.elements (rows_in Of1988 s) in
    let wide : length all_numbers ≡ length (rows_in Of1988 s) * table_width = table-length a.elements 0 (rows_in Of1988 s) in
    let is : table ≡ onto all_numbers lent_table = kept ∙ ap (λ (es : List Element). onto (table_numbers es (rows_in Of1988 s)) lent_table) own in
    record {
      accepted = n;
      few = omega (arith, a.few, d.rows_counted);
      full = ap length is ∙ length-append all_numbers (drop (length all_numbers) lent_table)
          ∙ omega (arith, length-drop (length all_numbers) lent_table, a.few, d.rows_counted);
      lines = ap (λ (l : List ℕ). row_lines l 0 answer.elements) is ∙ ap (row_lines (onto all_numbers lent_table) 0) count
          ∙ table-lines a.elements (rows_in Of1988 s) (drop (length all_numbers) lent_table);
    }

-- the lines of a stream, by the check's number
pub refused-lines : (s : List ℕ) {answer : Checked} → answer ≡ checked Of1988 s lent_table → (answer.number ≡ 0 → ⊥)
    → refused answer.number answer.place ≡ stream_lines s
unfolding stream_lines
refused-lines s {answer} e other =
    let test : eqb answer.number 0 ≡ false = ne_eqb answer.number 0 other in
    rw (← e, test)

pub accepted-lines : (s : List ℕ) {answer : Checked} → answer ≡ checked Of1988 s lent_table → answer.number ≡ 0
    → accepted_lines answer.elements answer.headers s ≡ stream_lines s
unfolding stream_lines
accepted-lines s {answer} e same =
    let test : eqb answer.number 0 ≡ true = eq-eqb answer.number 0 same in
    rw (← e, test)
