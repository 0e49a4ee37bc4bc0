-- No stale text: the contract says what the lines and the output are, and a line and its text are parts of these.
use mathlib.Core.Path.{◌≡◌, refl, ap, sym, ◌∙◌, subst}
use mathlib.Core.Logic.{◌⊎◌, inl, inr}
use mathlib.Core.Bool.{true, false, true≢false}
use mathlib.Core.List.{List, [], ◌∷◌, ◌++◌, append_assoc, Memᴰ}
use mathlib.Core.Option.{some}
use Prim.Native.Nat.{ℕ, ◌+◌, ◌*◌, ◌≤◌}
use native.Mathlib.Omega.{arith}
use lib.Dec.{eqb, ltb}
use lib.ListN.{length, take, drop, get_elem?, length-append}
use lib.Seq.{take_at, drop_at}
use borrow.Author.Tests.{eqb-true, eq-eqb, ne_eqb, le-ltb, ltb-false}
use borrow.Table.Steps.{cases}
use Rattle.laws.proofs.Tests.{cond-holds}
use Rattle.headers.specs.Head.{is_in}
use Rattle.tree.specs.Tree.{tree_of}
use Rattle.runs.proofs.Laws.{stream-fine}
use Rattle.elements.specs.declared.Edition.{Edition}
use Rattle.elements.specs.Judge.{Element}
use Rattle.letters.specs.Letter.{Letter, letter, refusal, letter_in}
use Rattle.letters.proofs.Apart.{accepted-apart}
use Rattle.reading.specs.declared.Match.{Match}
use Rattle.reading.specs.declared.Side.{Side}
use Rattle.reading.specs.Match.{matches}
use Rattle.reading.proofs.Lists.{in-member}
use Rattle.reading.proofs.Matches.{matches-are}
use Rattle.text_lines.specs.Text.{texts_of, line_of, lines_from, line_width, line_cells, line_numbers}
use Rattle.text_lines.proofs.Fits.{texts-fit}
use Rattle.answers.specs.declared.Listed.{Listed}
use Rattle.answers.specs.declared.TextRead.{TextRead}
use Rattle.answers.specs.Table.{too_few_rows}
use Rattle.answers.specs.Answers.{table_of, listed, matches_in}
use Rattle.answers.specs.Text.{text_in, texts_in, lines_in, lines_lent, text_read_from, text_read, shown_table, text_lines, text_output, TextOutcome}
use Rattle.letters.proofs.Letters.{letter-found}
use Rattle.answers.proofs.Small.{refusal-small}
use Rattle.answers.proofs.TextSteps.{text-content, text-ruled}
use Rattle.promises.specs.Demands.{Answered}
use Rattle.promises.proofs.Demand1.{told-own, told-zero, demand1}
use Rattle.promises_text.specs.NoStaleText.{ShowsMatch, OnScreen, Untouched, NoStaleText}
use Rattle.promises_text.proofs.Places.{part_of, text_at}

-- five numbers a line
lines_long : (edition : Edition) (s : List ℕ) (first : ℕ) (ms : List Match) → length (line_numbers (lines_from (text_in edition s) first ms)) ≡ 5 * length ms
unfolding lines_from line_numbers
lines_long edition s first [] = refl
lines_long edition s first (m ∷ ms) = let l = lines_long edition s (line_of (text_in edition s) first m).past ms in omega arith

-- a reading that was answered: the list was, and all texts fit
record Fitting (r : Listed) (texts out : List ℕ) : Type 0 where
  list_answered : r.number ≡ 0
  told : text_read_from r (length texts) (length out) ≡ record { number = 0; place = 0; elements = r.elements; lines = r.matches; length = length texts }
  fits : length texts ≤ length out

fitting : (r : Listed) (texts out : List ℕ) → (text_read_from r (length texts) (length out)).number ≡ 0 → Fitting r texts out
fitting r texts out zero_number =
    cases (eqb r.number 0)
    (λ t.
    cases (ltb (length out) (length texts))
    (λ u. let n : (text_read_from r (length texts) (length out)).number ≡ 22 = rw (t, u) in absurd (omega arith))
    (λ u. record { list_answered = eqb-true r.number 0 t; told = rw (t, u); fits = ltb-false (length out) (length texts) u }))
    (λ t.
    let n : (text_read_from r (length texts) (length out)).number ≡ r.number = rw t in
    let z : eqb r.number 0 ≡ true = eq-eqb r.number 0 (sym n ∙ zero_number) in
    absurd (true≢false (sym z ∙ t)))

-- ---- what may be answered, and what a refusal counts

-- the reading's own refusals
abbrev own : List ℕ
own = 16 ∷ 19 ∷ 22 ∷ []

own-too : (n : ℕ) → is_in n (16 ∷ 19 ∷ []) ≡ true → is_in n own ≡ true
own-too n i =
    cases (eqb n 16)
    (λ t. rw t)
    (λ t. cases (eqb n 19) (λ u. rw (t, u)) (λ u. let none_of : is_in n (16 ∷ 19 ∷ []) ≡ false = rw (t, u) in absurd (true≢false (sym i ∙ none_of))))

wider-told : {s : List ℕ} {number place : ℕ} → Answered s (16 ∷ 19 ∷ []) number place → Answered s own number place
wider-told {number = number} a = record { one_of = one a.one_of; inside = a.inside; at_start = a.at_start }
  where
    one : (number ≤ 15) ⊎ (is_in number (16 ∷ 19 ∷ []) ≡ true) → (number ≤ 15) ⊎ (is_in number own ≡ true)
    one (inl l) = inl l
    one (inr i) = inr (own-too number i)

abbrev Counts : TextRead → Type 0
Counts a = (a.number ≡ 0 → ⊥) → (a.lines ≡ 0) × (a.length ≡ 0) × ((a.number ≡ 19 → ⊥) → a.elements ≡ 0)

module _ (edition : Edition) (side : Side) (s table : List ℕ) (room : ℕ) where
  abbrev list : Listed
  list = listed edition side s table room

  told-from : (needed lent : ℕ) → Answered s own (text_read_from list needed lent).number (text_read_from list needed lent).place
  told-from needed lent =
      let P : TextRead → Type 0 = λ a. Answered s own a.number a.place in
      cond-holds P (eqb list.number 0)
      (λ _. cond-holds P (ltb lent needed) (λ _. told-own s own 22 refl) (λ _. told-zero s own))
      (λ _. wider-told ((demand1 edition).list_told side s table room))

  counts-from : (needed lent : ℕ) → Counts (text_read_from list needed lent)
  counts-from needed lent =
      cond-holds Counts (eqb list.number 0)
      (λ _. cond-holds Counts (ltb lent needed) (λ _ _. (refl, refl, λ _. refl)) (λ _ n. absurd (n refl)))
      (λ _ n. (refl, refl, λ m. ((demand1 edition).list_counts side s table room n).1 m))

  told-shown : (out : List ℕ) → Answered s own (text_read edition side s table room out).number (text_read edition side s table room out).place
  unfolding text_read
  told-shown out = told-from (length (texts_in edition side s)) (length out)

  counts-shown : (out : List ℕ) → Counts (text_read edition side s table room out)
  unfolding text_read
  counts-shown out = counts-from (length (texts_in edition side s)) (length out)

module _ (edition : Edition) (side : Side) (s : List ℕ) where
  -- of a letter
  module _ (headers : ℕ) (elements : List Element) (e : letter_in edition s ≡ letter headers elements) where
    letter-fits : length (texts_in edition side s) ≤ length s
    unfolding texts_in
    letter-fits =
        let found = letter-found edition s headers elements e in
        let same : matches_in edition side s ≡ matches side elements = rw e in
        let fit = texts-fit edition s (stream-fine s _ _ found.walked) elements found.judged
        (accepted-apart edition (tree_of s) elements found.judged) (text_in edition s)
        (text-content edition s e) side in
        subst (λ (ms : List Match). length (texts_of (text_in edition s) ms) ≤ length s) (sym same) fit

    listed-all : (table : List ℕ) (room : ℕ) → (listed edition side s table room).number ≡ 0 → (listed edition side s table room).matches ≡ length
        (matches_in edition side s)
    unfolding listed
    listed-all table room zero_number =
        let list = matches side elements in
        cases (too_few_rows table elements)
        (λ t. let n : (listed edition side s table room).number ≡ 16 = rw (e, t) in absurd (omega arith))
        (λ t.
        cases (ltb room (length list))
        (λ u. let n : (listed edition side s table room).number ≡ 19 = rw (e, t, u) in absurd (omega arith))
        (λ u. rw (e, t, u)))

  -- no more octets than the stream has
  fits_by : (l : Letter) → letter_in edition s ≡ l → length (texts_in edition side s) ≤ length s
  unfolding texts_in texts_of
  fits_by (letter headers elements) e = letter-fits headers elements e
  fits_by (refusal number place headers) e = rw e (omega arith)

  -- the list is never refused by 22
  list-never-by : (table : List ℕ) (room : ℕ) (l : Letter) → letter_in edition s ≡ l → (listed edition side s table room).number ≡ 22 → ⊥
  unfolding listed
  list-never-by table room (refusal number place headers) e z =
      let n : (listed edition side s table room).number ≡ number = rw e in
      omega (arith, (refusal-small edition s number place headers e).high)
  list-never-by table room (letter headers elements) e z =
      cases (too_few_rows table elements)
      (λ t. let n : (listed edition side s table room).number ≡ 16 = rw (e, t) in omega arith)
      (λ t.
      cases (ltb room (length (matches side elements)))
      (λ u. let n : (listed edition side s table room).number ≡ 19 = rw (e, t, u) in omega arith)
      (λ u. let n : (listed edition side s table room).number ≡ 0 = rw (e, t, u) in omega arith))

  list-never-22 : (table : List ℕ) (room : ℕ) → (listed edition side s table room).number ≡ 22 → ⊥
  list-never-22 table room = list-never-by table room (letter_in edition s) refl

  stream_enough : (table : List ℕ) (room : ℕ) (out : List ℕ) → length s ≤ length out → (text_read edition side s table room out).number ≡ 22 → ⊥
  unfolding text_read
  stream_enough table room out enough e =
      let r = listed edition side s table room in
      let texts = texts_in edition side s in
      let u : ltb (length out) (length texts) ≡ false = le-ltb (length out) (length texts) (omega (arith, fits_by (letter_in edition s) refl)) in
      cases (eqb r.number 0)
      (λ t. let n : (text_read edition side s table room out).number ≡ 0 = rw (t, u) in omega arith)
      (λ t. let n : (text_read edition side s table room out).number ≡ r.number = rw t in list-never-22 table room (sym n ∙ e))

  module _ (table lines out : List ℕ) (answer : TextRead) (table_after lines_after out_after : List ℕ)
      (outcome : TextOutcome edition side s table lines out answer table_after lines_after out_after) where
    abbrev own_answer : TextRead
    own_answer = text_read edition side s table (lines_lent lines) out

    -- a refusal leaves all as it was, but for 19
    refused : (answer.number ≡ 0 → ⊥) → Untouched table lines out answer table_after lines_after out_after
    unfolding shown_table text_lines text_output
    refused Some-number =
        let n : answer.number ≡ own_answer.number = ap (λ (r : TextRead). r.number) outcome.answered in
        let t : eqb own_answer.number 0 ≡ false = ne_eqb own_answer.number 0 (λ z. Some-number (n ∙ z)) in
        let (no_lines, no_octets, no_elements) = subst Counts (sym outcome.answered) (counts-shown edition side s table (lines_lent lines) out) Some-number in
        record {
          no_lines = no_lines;
          no_octets = no_octets;
          lines_kept = outcome.filled ∙ rw t;
          output_kept = outcome.put ∙ rw t;
          no_elements = no_elements;
          table_kept = λ other.
              let u : eqb own_answer.number 19 ≡ false = ne_eqb own_answer.number 19 (λ z. other (n ∙ z)) in
              outcome.tabled ∙ rw (t, u);
        }

    finished : answer.number ≡ 19 → table_after ≡ table_of edition s table
    unfolding shown_table
    finished e = let n : own_answer.number ≡ 19 = sym (ap (λ (r : TextRead). r.number) outcome.answered) ∙ e in outcome.tabled ∙ rw n

    module _ (zero_number : answer.number ≡ 0) where
      abbrev texts : List ℕ
      texts = texts_in edition side s

      abbrev all_numbers : List ℕ
      all_numbers = line_numbers (lines_in edition side s)

      is_zero : (text_read edition side s table (lines_lent lines) out).number ≡ 0
      is_zero = ap (λ (r : TextRead). r.number) (sym outcome.answered) ∙ zero_number

      fit : Fitting (listed edition side s table (lines_lent lines)) texts out
      unfolding text_read
      fit = fitting (listed edition side s table (lines_lent lines)) texts out is_zero

      told : answer ≡ record {
        number = 0;
        place = 0;
        elements = (listed edition side s table (lines_lent lines)).elements;
        lines = (listed edition side s table (lines_lent lines)).matches;
        length = length texts;
      }
      unfolding text_read
      told = outcome.answered ∙ fit.told

      pub how-long : answer.length ≡ length texts
      how-long = ap (λ (r : TextRead). r.length) told

      lines_are : lines_after ≡ all_numbers ++ drop (length all_numbers) lines
      unfolding text_lines
      lines_are = let t : eqb (text_read edition side s table (lines_lent lines) out).number 0 ≡ true = eq-eqb _ 0 is_zero in outcome.filled ∙ rw t

      output-is : out_after ≡ texts ++ drop (length texts) out
      unfolding text_output
      output-is = let t : eqb (text_read edition side s table (lines_lent lines) out).number 0 ≡ true = eq-eqb _ 0 is_zero in outcome.put ∙ rw t

      octets-are : take answer.length out_after ≡ texts
      octets-are = rw (how-long, output-is) (take_at texts (drop (length texts) out) (length texts) refl)

      past_octets : drop answer.length out_after ≡ drop answer.length out
      past_octets = rw (how-long, output-is) (drop_at texts (drop (length texts) out) (length texts) refl)

      module _ (headers : ℕ) (elements : List Element) (e : letter_in edition s ≡ letter headers elements) where
        how-many : answer.lines ≡ length (matches_in edition side s)
        how-many = ap (λ (r : TextRead). r.lines) told ∙ listed-all headers elements e table (lines_lent lines) fit.list_answered

        past_lines : drop (line_width * answer.lines) lines_after ≡ drop (line_width * answer.lines) lines
        unfolding lines_in
        past_lines =
            let long : length all_numbers ≡ 5 * answer.lines = lines_long edition s 0 (matches_in edition side s) ∙ ap (λ (n : ℕ). 5 * n) (sym how-many) in
            rw (lines_are, ← long) (drop_at all_numbers (drop (length all_numbers) lines) (length all_numbers) refl)

        each_line : (k : ℕ) (m : Match) → get_elem? (matches_in edition side s) k ≡ some m → ShowsMatch edition side s elements answer lines_after out_after k m
        unfolding texts_in lines_in
        each_line k m there =
            let text = text_in edition s in
            let own = text m.unit in
            let t = text_at text 0 (matches_in edition side s) k m there in
            let line = line_of text (0 + length t.before) m in
            let same : matches_in edition side s ≡ matches side elements = rw e in
            let is_match = matches-are side elements m (subst (λ (ms : List Match). Memᴰ m ms) same (in-member m (matches_in edition side s) k there)) in
            let rest = drop (length texts) out in
            let more = drop (length all_numbers) lines in
            let shape : out_after ≡ t.before ++ (own ++ (t.after ++ rest)) =
            output-is ∙ ap (λ (l : List ℕ). l ++ rest) t.texts ∙ append_assoc t.before (own ++ t.after) rest
            ∙ ap (λ (l : List ℕ). t.before ++ l) (append_assoc own t.after rest) in
            let numbers : lines_after ≡ t.numbers_before ++ (line_cells line ++ (t.numbers_after ++ more)) =
            lines_are ∙ ap (λ (l : List ℕ). l ++ more) t.numbers ∙ append_assoc t.numbers_before (line_cells line ++ t.numbers_after) more
            ∙ ap (λ (l : List ℕ). t.numbers_before ++ l) (append_assoc (line_cells line) t.numbers_after more) in
            let size = ap length t.texts ∙ length-append t.before (own ++ t.after) in
            let size-own = length-append own t.after in
            record {
              line = line;
              stands = rw numbers (part_of t.numbers_before (line_cells line) (t.numbers_after ++ more) (5 * k) t.placed);
              element = refl;
              portion = refl;
              unit = refl;
              is_match = is_match;
              order = omega arith;
              inside = omega (arith, how-long, size, size-own);
              text = rw shape (part_of t.before own (t.after ++ rest) (0 + length t.before) (omega arith))
                  ∙ text-content edition s e m.unit is_match.unit is_match.unit_there is_match.joined.of_unit;
            }

      shows-by : (l : Letter) → letter_in edition s ≡ l → OnScreen edition side s lines out answer lines_after out_after
      shows-by (letter headers elements) e = record {
        headers = headers;
        elements = elements;
        is_letter = e;
        all_lines = how-many headers elements e;
        each_line = each_line headers elements e;
        all_octets = octets-are;
        no_longer = omega (arith, how-long, letter-fits headers elements e);
        past_octets = past_octets;
        past_lines = past_lines headers elements e;
      }
      shows-by (refusal number place headers) e =
          let small = refusal-small edition s number place headers e in
          let ruled = ap (λ (r : TextRead). r.number) (text-ruled edition side s table [] (lines_lent lines) out number place headers e).answered in
          absurd (omega (arith, small.low, is_zero, ruled))

pub no-stale-text : (edition : Edition) (side : Side) → NoStaleText edition side
no-stale-text edition side = record {
  shows = λ s table lines out answer table_after lines_after out_after outcome zero_number.
      shows-by edition side s table lines out answer table_after lines_after out_after outcome zero_number (letter_in edition s) refl;
  fresh = λ s table lines out t l o answer other table_after lines_after out_after ta la oa outcome zero_number other-outcome other-zero. (
    how-long edition side s table lines out answer table_after lines_after out_after outcome zero_number
        ∙ sym (how-long edition side s t l o other ta la oa other-outcome other-zero),
    octets-are edition side s table lines out answer table_after lines_after out_after outcome zero_number
        ∙ sym (octets-are edition side s t l o other ta la oa other-outcome other-zero),
  );
  told = told-shown edition side;
  refused = λ s table lines out answer table_after lines_after out_after outcome Some-number.
      refused edition side s table lines out answer table_after lines_after out_after outcome Some-number;
  finished = λ s table lines out answer table_after lines_after out_after outcome e. finished edition side s table lines out answer table_after lines_after out_after outcome e;
  refused_alike = λ s table room out number place headers e. sym (text-ruled edition side s table [] room out number place headers e).answered;
  stream_enough = λ s table room out enough. stream_enough edition side s table room out enough;
}
