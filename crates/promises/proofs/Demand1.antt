-- Demand 1: each clause by what the stream is, a letter or refused, and by the tests of the question.
use mathlib.Core.Path.{◌≡◌, refl, ◌∙◌}
use mathlib.Core.Logic.{◌⊎◌, inl, inr}
use mathlib.Core.Bool.{true, false}
use mathlib.Core.List.{List, [], ◌∷◌}
use mathlib.Core.Option.{Option, none, some}
use Prim.Native.Nat.{ℕ, ◌<◌, ◌≤◌}
use native.Mathlib.Omega.{arith}
use lib.Dec.{eqb, ltb}
use lib.ListN.{length, get_elem?}
use borrow.Author.Tests.{ne_eqb, le-leb, lt-leb}
use Rattle.std.specs.Prelude.{Ok, Err}
use Rattle.octets.specs.Told.{Outcome}
use Rattle.headers.specs.Head.{is_in}
use Rattle.octets.specs.Walk.{count, stream_limit, deepest, End, ends, stops, run, outcome_of, walk_of}
use Rattle.octets.specs.Told.{told}
use Rattle.laws.proofs.Tests.{cond-holds}
use Rattle.octets.proofs.Half.{half}
use Rattle.tree.specs.Tree.{tree_of}
use Rattle.elements.specs.declared.Edition.{Edition}
use Rattle.elements.specs.Judge.{Content, single, in_pieces, Element, Judged, accepted, refused, judge}
use Rattle.letters.specs.Letter.{Letter, letter, refusal, items_of_stream, after_walk, by_walk, letter_in}
use Rattle.reading.specs.declared.Side.{Side}
use Rattle.reading.specs.Match.{unit_kind, matches}
use Rattle.normal.specs.Normal.{normal_form}
use Rattle.answers.specs.declared.Checked.{Checked}
use Rattle.answers.specs.declared.Written.{Written}
use Rattle.answers.specs.declared.Listed.{Listed}
use Rattle.answers.specs.declared.Copied.{Copied}
use Rattle.answers.specs.Table.{too_few_rows}
use Rattle.answers.specs.Answers.{checked_by, checked, checked_table, written_by, written, written_output, listed_by, listed, listed_table, listed_list, Fetched}
use Rattle.answers.specs.Answers.{fetched_of, fetched_by, part_of, fetched, all_of, joined_in, copied_from, copied, copied_output}
use Rattle.promises.specs.Demands.{Answered, Demand1}
use Rattle.answers.proofs.Small.{Small, refusal-small}

never : {s : List ℕ} {number place headers : ℕ} → Small s number place headers → (number ≡ 0) ⊎ (15 < number) → ⊥
never small (inl e) = omega arith
never small (inr l) = omega arith

-- a refusal by 1 to 15
pub told-small : {s : List ℕ} {number place headers : ℕ} (own : List ℕ) → Small s number place headers → Answered s own number place
told-small own small = record { one_of = inl small.high; inside = small.inside; at_start = λ o. absurd (never small o) }

-- accepted, or a refusal of the question's own
pub told-own : (s own : List ℕ) (number : ℕ) → is_in number own ≡ true → Answered s own number 0
told-own s own number i = record { one_of = inr i; inside = omega arith; at_start = λ o. refl }

pub told-zero : (s own : List ℕ) → Answered s own 0 0
told-zero s own = record { one_of = inl (omega arith); inside = omega arith; at_start = λ o. refl }

pub small-in : (edition : Edition) (s : List ℕ) (number place headers : ℕ) → letter_in edition s ≡ refusal number place headers → Small s number place headers
small-in edition s number place headers e = refusal-small edition s number place headers e

module _ (edition : Edition) (s : List ℕ) where
  check-told-by : (table : List ℕ) (l : Letter) → letter_in edition s ≡ l → Answered s (16 ∷ []) (checked_by l table).number (checked_by l table).place
  check-told-by table (refusal number place headers) e = told-small (16 ∷ []) (small-in edition s number place headers e)
  check-told-by table (letter headers elements) e =
      cond-holds (λ (a : Checked). Answered s (16 ∷ []) a.number a.place) (too_few_rows table elements) (λ _. told-own s (16 ∷ []) 16 refl)
      (λ _. told-zero s (16 ∷ []))

  normal-told-by : (form out : List ℕ) (l : Letter) → letter_in edition s ≡ l → Answered s (17 ∷ 18 ∷ []) (written_by l form out).number
      (written_by l form out).place
  normal-told-by form out (refusal number place headers) e = told-small (17 ∷ 18 ∷ []) (small-in edition s number place headers e)
  normal-told-by form out (letter headers elements) e =
      cond-holds (λ (a : Written). Answered s (17 ∷ 18 ∷ []) a.number a.place) (ltb stream_limit (length form)) (λ _. told-own s (17 ∷ 18 ∷ []) 17 refl)
      (λ _. cond-holds (λ (a : Written). Answered s (17 ∷ 18 ∷ []) a.number a.place) (ltb (length out) (length form))
      (λ _. told-own s (17 ∷ 18 ∷ []) 18 refl) (λ _. told-zero s (17 ∷ 18 ∷ [])))

  list-told-by : (side : Side) (table : List ℕ) (room : ℕ) (l : Letter) → letter_in edition s ≡ l
      → Answered s (16 ∷ 19 ∷ []) (listed_by l side table room).number (listed_by l side table room).place
  list-told-by side table room (refusal number place headers) e = told-small (16 ∷ 19 ∷ []) (small-in edition s number place headers e)
  list-told-by side table room (letter headers elements) e =
      cond-holds (λ (a : Listed). Answered s (16 ∷ 19 ∷ []) a.number a.place) (too_few_rows table elements) (λ _. told-own s (16 ∷ 19 ∷ []) 16 refl)
      (λ _. cond-holds (λ (a : Listed). Answered s (16 ∷ 19 ∷ []) a.number a.place) (ltb room (length (matches side elements)))
      (λ _. told-own s (16 ∷ 19 ∷ []) 19 refl) (λ _. told-zero s (16 ∷ 19 ∷ [])))

  -- whatever is wanted of the content of a text unit
  module _ (own : List ℕ) (no-unit : is_in 20 own ≡ true) (wanted : Content → Fetched)
      (told : (c : Content) → Answered s own (wanted c).number (wanted c).place) where
    fetched-told-of : (e : Option Element) → Answered s own (fetched_of wanted e).number (fetched_of wanted e).place
    fetched-told-of none = told-own s own 20 no-unit
    fetched-told-of (some e) =
        cond-holds (λ (a : Fetched). Answered s own a.number a.place) (eqb e.kind unit_kind) (λ _. told e.content) (λ _. told-own s own 20 no-unit)

    fetched-told-by : (asked : ℕ) (l : Letter) → letter_in edition s ≡ l → Answered s own (fetched_by wanted l asked).number (fetched_by wanted l asked).place
    fetched-told-by asked (refusal number place headers) e = told-small own (small-in edition s number place headers e)
    fetched-told-by asked (letter headers elements) e = fetched-told-of (get_elem? elements asked)

  part-told : (c : Content) → Answered s (20 ∷ 21 ∷ []) (part_of c).number (part_of c).place
  part-told (single value) = told-zero s (20 ∷ 21 ∷ [])
  part-told (in_pieces run) = told-own s (20 ∷ 21 ∷ []) 21 refl

  copied-told : (f : Fetched) (out : List ℕ) → Answered s (20 ∷ 22 ∷ []) f.number f.place
      → Answered s (20 ∷ 22 ∷ []) (copied_from f out).number (copied_from f out).place
  copied-told f out told =
      cond-holds (λ (a : Copied). Answered s (20 ∷ 22 ∷ []) a.number a.place) (eqb f.number 0)
      (λ _. cond-holds (λ (a : Copied). Answered s (20 ∷ 22 ∷ []) a.number a.place) (ltb (length out) (length f.part))
      (λ _. told-own s (20 ∷ 22 ∷ []) 22 refl) (λ _. told-zero s (20 ∷ 22 ∷ [])))
      (λ _. told)

-- the header count of either
abbrev headers_of : Letter → ℕ
headers_of (letter headers elements) = headers
headers_of (refusal number place headers) = headers

check-headers : (table : List ℕ) (l : Letter) → (checked_by l table).headers ≡ headers_of l
check-headers table (refusal number place headers) = refl
check-headers table (letter headers elements) = cond-holds (λ (a : Checked). a.headers ≡ headers) (too_few_rows table elements) (λ _. refl) (λ _. refl)

judged-headers : (s : List ℕ) (headers : ℕ) (j : Judged) → headers_of (after_walk (items_of_stream s) headers j) ≡ headers
judged-headers s headers (accepted elements) = refl
judged-headers s headers (refused number element) = refl

walked-headers : (edition : Edition) (s : List ℕ) (o : Outcome) → headers_of (by_walk edition s o) ≡ (told o).headers
walked-headers edition s (Ok o) = judged-headers s o.count (judge edition (tree_of s))
walked-headers edition s (Err fault) = refl

-- the check's header count is the walk's
headers-told : (edition : Edition) (s table : List ℕ) → (checked edition s table).headers ≡ (told (walk_of s)).headers
unfolding checked letter_in
headers-told edition s table = check-headers table (letter_in edition s) ∙ walked-headers edition s (walk_of s)

answer-headers : (n : ℕ) (e : End) → (told (outcome_of n e)).headers ≡ n
answer-headers n (ends at) = refl
answer-headers n (stops number place) = refl

walk-headers : (s : List ℕ) → length s ≤ stream_limit → (told (walk_of s)).headers ≡ count (items_of_stream s)
unfolding walk_of
walk-headers s l = let w = run deepest s 0 (length s) false in rw (le-leb (length s) stream_limit l) (answer-headers (count w.items) w.how)

walk-over : (s : List ℕ) → stream_limit < length s → (told (walk_of s)).headers ≡ 0
unfolding walk_of
walk-over s l = rw (lt-leb (length s) stream_limit l)

check-counts-by : (table : List ℕ) (l : Letter) → ((checked_by l table).number ≡ 0 → ⊥) → (checked_by l table).elements ≡ 0
check-counts-by table (refusal number place headers) = λ n. refl
check-counts-by table (letter headers elements) =
    cond-holds (λ (a : Checked). (a.number ≡ 0 → ⊥) → a.elements ≡ 0) (too_few_rows table elements) (λ _ n. refl) (λ _ n. absurd (n refl))

normal-counts-by : (form out : List ℕ) (l : Letter) → ((written_by l form out).number ≡ 0 → ⊥) → (written_by l form out).length ≡ 0
normal-counts-by form out (refusal number place headers) = λ n. refl
normal-counts-by form out (letter headers elements) =
    cond-holds (λ (a : Written). (a.number ≡ 0 → ⊥) → a.length ≡ 0) (ltb stream_limit (length form)) (λ _ n. refl)
    (λ _. cond-holds (λ (a : Written). (a.number ≡ 0 → ⊥) → a.length ≡ 0) (ltb (length out) (length form)) (λ _ n. refl) (λ _ n. absurd (n refl)))

abbrev ListCounts : Listed → Type 0
ListCounts a = (a.number ≡ 0 → ⊥) → (a.matches ≡ 0) × ((a.number ≡ 19 → ⊥) → a.elements ≡ 0)

list-counts-by : (side : Side) (table : List ℕ) (room : ℕ) (l : Letter) → ListCounts (listed_by l side table room)
list-counts-by side table room (refusal number place headers) = λ n. (refl, λ _. refl)
list-counts-by side table room (letter headers elements) =
    cond-holds ListCounts (too_few_rows table elements) (λ _ n. (refl, λ _. refl))
    (λ _. cond-holds ListCounts (ltb room (length (matches side elements))) (λ _ n. (refl, λ m. absurd (m refl))) (λ _ n. absurd (n refl)))

copied-counts : (f : Fetched) (out : List ℕ) → ((copied_from f out).number ≡ 0 → ⊥) → (copied_from f out).length ≡ 0
copied-counts f out =
    cond-holds (λ (a : Copied). (a.number ≡ 0 → ⊥) → a.length ≡ 0) (eqb f.number 0)
    (λ _. cond-holds (λ (a : Copied). (a.number ≡ 0 → ⊥) → a.length ≡ 0) (ltb (length out) (length f.part)) (λ _ n. refl) (λ _ n. absurd (n refl)))
    (λ _ n. refl)

abbrev EmptyIfRefused : Fetched → Type 0
EmptyIfRefused a = (a.number ≡ 0 → ⊥) → a.part ≡ []

part-empty : (c : Content) → EmptyIfRefused (part_of c)
part-empty (single value) = λ n. absurd (n refl)
part-empty (in_pieces run) = λ n. refl

empty_of : (e : Option Element) → EmptyIfRefused (fetched_of part_of e)
empty_of none = λ n. refl
empty_of (some e) = cond-holds EmptyIfRefused (eqb e.kind unit_kind) (λ _. part-empty e.content) (λ _ n. refl)

content-empty-by : (asked : ℕ) (l : Letter) → EmptyIfRefused (fetched_by part_of l asked)
content-empty-by asked (refusal number place headers) = λ n. refl
content-empty-by asked (letter headers elements) = empty_of (get_elem? elements asked)

pub demand1 : (edition : Edition) → Demand1 edition
unfolding checked checked_table written written_output listed listed_table listed_list fetched joined_in copied copied_output
demand1 edition = record {
  check_told = λ s table. check-told-by edition s table (letter_in edition s) refl;
  normal_told = λ s out. normal-told-by edition s (normal_form s) out (letter_in edition s) refl;
  list_told = λ side s table room. list-told-by edition s side table room (letter_in edition s) refl;
  content_told = λ s asked. fetched-told-by edition s (20 ∷ 21 ∷ []) refl part_of (part-told edition s) asked (letter_in edition s) refl;
  joined_told = λ s asked out. copied-told edition s (joined_in edition s asked) out
      (fetched-told-by edition s (20 ∷ 22 ∷ []) refl all_of (λ _. told-zero s (20 ∷ 22 ∷ [])) asked (letter_in edition s) refl);
  headers = λ s table l. headers-told edition s table ∙ walk-headers s l;
  headers_half = λ s table. let h = half s in let e = headers-told edition s table in omega arith;
  headers_after_1 = λ s table l. headers-told edition s table ∙ walk-over s l;
  check_counts = λ s table. check-counts-by table (letter_in edition s);
  normal_counts = λ s out. normal-counts-by (normal_form s) out (letter_in edition s);
  list_counts = λ side s table room. list-counts-by side table room (letter_in edition s);
  joined_counts = λ s asked out. copied-counts (joined_in edition s asked) out;
  check_untouched = λ s table n. rw (ne_eqb (checked edition s table).number 0 n);
  normal_untouched = λ s out n. rw (ne_eqb (written edition s out).number 0 n);
  list_untouched = λ side s table list n. rw (ne_eqb (listed edition side s table (length list)).number 0 n);
  list_table_untouched = λ side s table room n m. rw (
    ne_eqb (listed edition side s table room).number 0 n,
    ne_eqb (listed edition side s table room).number 19 m,
  );
  list_table_finished = λ side s table room e. rw e;
  joined_untouched = λ s asked out n. rw (ne_eqb (copied edition s asked out).number 0 n);
  content_empty = λ s asked. content-empty-by asked (letter_in edition s);
}
