-- The two editions beside each other: one element read alike by both, then all of a tree; and the protected parts, which 1988 does not know.
use mathlib.Core.Path.{◌≡◌, refl, sym, ap, ap₂, ◌∙◌, subst}
use mathlib.Core.Bool.{Bool, true, false, cond, not, ◌&&◌, ◌||◌, true≢false, false≢true}
use mathlib.Core.List.{List, [], ◌∷◌, ◌++◌, map}
use mathlib.Core.Option.{some}
use Prim.Native.Nat.{ℕ, zero, suc, ◌+◌, ◌%◌, ◌<◌}
use native.Mathlib.Omega.{arith}
use lib.Dec.{eqb, leb}
use lib.ListN.{length, take, get_or, get_elem?}
use lib.Seq.{length-take-le}
use borrow.Author.Tests.{eqb-true, ne_eqb, leb-true, not-true, not-false}
use borrow.Table.Steps.{cases}
use Rattle.std.specs.Prelude.{Ok, Err}
use Rattle.laws.proofs.Tests.{cond-holds}
use Rattle.headers.specs.Head.{constructed, code_of, type_field, is_in}
use Rattle.octets.specs.Told.{Outcome, ended}
use Rattle.octets.specs.Walk.{Items, no_items, item, End, ends, stops, walk_of}
use Rattle.tree.specs.Tree.{Tree, empty, leaf, branch, formed, plain, tree_of}
use Rattle.contents.specs.declared.Span.{Span}
use Rattle.contents.specs.Search.{is, amount}
use Rattle.contents.proofs.Firsts.{is_field}
use Rattle.portions.specs.Portions.{values}
use Rattle.elements.specs.declared.Edition.{Edition}
use Rattle.elements.specs.declared.Edition.TheVariants.{Of1988, Of1993}
use Rattle.elements.specs.declared.Row.{Row}
use Rattle.elements.specs.Shape.{Contents, profile, protected, entry, Shape, no_shape, Shapes, shapes1993, shape_in, shape_of}
use Rattle.elements.specs.Judge.{none_of, body_of, Element, element_of, most_elements, refusal_of, accepted, refused, judge_one}
use Rattle.elements.specs.Judge.{judge_from, judge}
use Rattle.elements.specs.ElementRows.{body_in, content_octet, row_of, rows_of, place_of}
use Rattle.letters.specs.Letter.{Letter, letter, refusal, items_of_stream, after_walk, by_walk, letter_in, rows_in}
use Rattle.reading.specs.declared.Match.{Match}
use Rattle.reading.specs.declared.Side.{Side}
use Rattle.reading.specs.declared.Side.TheVariants.{Layout, Logical}
use Rattle.reading.specs.Match.{kinds_of, matches, IsMatch}
use Rattle.judging.proofs.Lists.{below_length}
use Rattle.fronts.specs.First.{walk_first}
use Rattle.sources.specs.Sources.{Source, line_sources, sources_from, sources_in}
use Rattle.sources.specs.Units.{content_places, places_of_each, places_in}
use Rattle.answers.specs.Answers.{fetched_by, all_of, matches_by, matches_in}
use Rattle.answers.specs.Answers.{checked, checked_table, written, written_output, listed, listed_table, listed_list, fetched, located, joined_in, copied}
use Rattle.answers.specs.Answers.{copied_output, ruled}
use Rattle.answers.specs.Related.{related, related_table, related_list}
use Rattle.text_lines.specs.Text.{texts_of, Line, line_of, lines_from}
use Rattle.answers.specs.Sources.{sourced, sourced_list}
use Rattle.answers.specs.Text.{text_in, texts_in, lines_in, text_read, shown_table, text_lines, text_output}
use Rattle.answers.specs.Short.{written_short, written_short_output}
use Rattle.order.specs.declared.Class.{Class}
use Rattle.order.specs.declared.Ordered.{Ordered}
use Rattle.order.specs.Question.{OrderIs, by_rule, in_order, out_of_order}
use Rattle.answers.specs.Dates.{date_of, dated}
use Rattle.answers.specs.FirstDates.{first_tree, first_rule, ruled_alone, first_ruled, first_date_of, first_dated}
use Rattle.letters.proofs.Letters.{refused-element, letter-found}
use Rattle.answers.proofs.Checks.{checks-refused}
use Rattle.answers.proofs.Listing.{lists-refused}
use Rattle.answers.proofs.Fetching.{fetches-refused}
use Rattle.answers.proofs.Relating.{relates-refused}
use Rattle.answers.proofs.TextSteps.{text-ruled}
use Rattle.promises.specs.Refusals.{TopItem, top_items, says_in, Refuses, too_many, unknown, no_profile, later_profile, misshapen, mistyped, misspelt}
use Rattle.promises.specs.Refusals.{repeated, at_element}
use Rattle.promises.specs.Editions.{is_protected, read_alike, agree, SameAnswers, SameLetterIn, Unnamed, PassedBefore, FillsNone, Editions}
use Rattle.promises.proofs.Refusals.{unlisted, typed-stream, accepted-elements, accepted-pass, by-refused}
use Rattle.promises.proofs.Telling.{both}
use Rattle.promises.proofs.OneElement.{ordered-holds, ordered-untiled, tabled-ordered, unit-tabled, Alike, shapes-agree, refusals-agree, elements-agree}

-- all elements of a tree are read alike
abbrev AllAlike : Tree → Type 0
AllAlike empty = Unit {0}
AllAlike (leaf type value after) = Alike type empty × AllAlike after
AllAlike (branch type inside after) = Alike type inside × AllAlike after

alike-by : (type : List ℕ) (run : Tree) → read_alike (record { type = type; run = run }) ≡ true → Alike type run
alike-by type run e =
    let (free, content) = both (not (is_protected type)) _ e in
    record {
      unprotected = not-true (is_protected type) free;
      held = λ t. record {
        some_item = λ z.
            let a : amount 0x04 run ≡ 0 = omega arith in
            let b : amount 0x24 run ≡ 0 = omega arith in
            let w : not (is 0xA3 type) || not (none_of 0x04 run && none_of 0x24 run) ≡ false = rw (t, a, b) in
            false≢true (sym w ∙ content);
      };
    }

agree-alike : (t : Tree) → agree t ≡ true → AllAlike t
agree-alike empty e = tt
agree-alike (leaf type value after) e =
    let (here, rest) = both (read_alike (record { type = type; run = empty })) _ e in (alike-by type empty here, agree-alike after rest)
agree-alike (branch type inside after) e =
    let (here, rest) = both (read_alike (record { type = type; run = inside })) _ e in (alike-by type inside here, agree-alike after rest)

-- then the judge says the same
one-agrees : (done : List Element) (type : List ℕ) (run : Tree) (after : Tree) → Alike type run
    → ((more : List Element) → judge_from Of1993 more after ≡ judge_from Of1988 more after)
    → judge_one Of1993 done type run (λ more. judge_from Of1993 more after) ≡ judge_one Of1988 done type run (λ more. judge_from Of1988 more after)
unfolding judge_one
one-agrees done type run after h later =
    let same = refusals-agree done type run h in
    cases (eqb (refusal_of Of1988 done type run) 0)
    (λ t.
    let e = elements-agree done type run h (eqb-true (refusal_of Of1988 done type run) 0 t) in
    rw (same, t, e) (later (done ++ (element_of (shape_of Of1988 type) run ∷ []))))
    (λ t. rw (same, t))

from-agrees : (t : Tree) → AllAlike t → (done : List Element) → judge_from Of1993 done t ≡ judge_from Of1988 done t
unfolding judge_from
from-agrees empty h done = refl
from-agrees (leaf type value after) h done = one-agrees done type empty after h.0 (from-agrees after h.1)
from-agrees (branch type inside after) h done = one-agrees done type inside after h.0 (from-agrees after h.1)

judge-agrees : (t : Tree) → AllAlike t → judge Of1993 t ≡ judge Of1988 t
unfolding judge
judge-agrees empty h = refl
judge-agrees (leaf type value after) h = from-agrees (leaf type value after) h []
judge-agrees (branch type inside after) h = from-agrees (branch type inside after) h []

walk-agrees : (s : List ℕ) → AllAlike (tree_of s) → (o : Outcome) → by_walk Of1993 s o ≡ by_walk Of1988 s o
walk-agrees s h (Ok o) = ap (after_walk (items_of_stream s) o.count) (judge-agrees (tree_of s) h)
walk-agrees s h (Err fault) = refl

letters-agree : (s : List ℕ) → AllAlike (tree_of s) → letter_in Of1993 s ≡ letter_in Of1988 s
unfolding letter_in
letters-agree s h = walk-agrees s h (walk_of s)

-- 1988 does not know a protected part
protected-unknown : (type : List ℕ) → is_protected type ≡ true → is (shape_of Of1988 type).octet type ≡ false
unfolding shape_of
protected-unknown type p =
    cases (is 0xA9 type)
    (λ t. let e : code_of type ≡ 0xA9 = eqb-true (code_of type) 0xA9 t in rw e)
    (λ a.
    cases (is 0xAA type)
    (λ t. let e : code_of type ≡ 0xAA = eqb-true (code_of type) 0xAA t in rw e)
    (λ b.
    cases (is 0xAB type)
    (λ t. let e : code_of type ≡ 0xAB = eqb-true (code_of type) 0xAB t in rw e)
    (λ c.
    cases (is 0xAC type)
    (λ t. let e : code_of type ≡ 0xAC = eqb-true (code_of type) 0xAC t in rw e)
    (λ d. let w : is_protected type ≡ false = rw (a, b, c, d) in absurd (false≢true (sym w ∙ p))))))

known : (edition : Edition) (done : List Element) (type : List ℕ) (run : Tree) → refusal_of edition done type run ≡ 0
    → is (shape_of edition type).octet type ≡ true
unfolding refusal_of
known edition done type run =
    let shape = shape_of edition type in
    let P : ℕ → Type 0 = λ n. n ≡ 0 → is shape.octet type ≡ true in
    cond-holds P (leb most_elements (length done)) (λ _ z. absurd (omega arith)) (λ _.
    cond-holds P (not (is shape.octet type)) (λ _ z. absurd (omega arith)) (λ t _. not-false (is shape.octet type) t))

-- no tiles in an element's run, if it is a text unit, and it is no protected part: so its row is the same
record Untiled (type : List ℕ) (run : Tree) : Type 0 where
  unprotected : is_protected type ≡ false
  untiled : is 0xA3 type ≡ true → none_of 0x30 run ≡ true

abbrev AllUntiled : Tree → Type 0
AllUntiled empty = Unit {0}
AllUntiled (leaf type value after) = Untiled type empty × AllUntiled after
AllUntiled (branch type inside after) = Untiled type inside × AllUntiled after

-- an element that 1988 passes is read alike
module _ (done : List Element) (type : List ℕ) (run : Tree) (passed : refusal_of Of1988 done type run ≡ 0) where
  passed-free : is_protected type ≡ false
  passed-free =
      cases (is_protected type)
      (λ t. absurd (false≢true (sym (protected-unknown type t) ∙ known Of1988 done type run passed)))
      (λ t. t)

  passed-alike : Alike type run
  passed-alike = record { unprotected = passed-free; held = λ t. ordered-holds run (tabled-ordered run (unit-tabled done type run t passed)) }

  passed-untiled : Untiled type run
  passed-untiled = record { unprotected = passed-free; untiled = λ t. ordered-untiled run (tabled-ordered run (unit-tabled done type run t passed)) }

-- what both editions need of all elements of a letter of 1988
abbrev Contained : Tree → Type 0
Contained t = AllAlike t × AllUntiled t

one-contained : (done : List Element) (type : List ℕ) (run after : Tree) (elements : List Element)
    → ((more : List Element) → judge_from Of1988 more after ≡ accepted elements → Contained after)
    → judge_one Of1988 done type run (λ more. judge_from Of1988 more after) ≡ accepted elements → (Alike type run × Untiled type run) × Contained after
unfolding judge_one
one-contained done type run after elements later e =
    cases (eqb (refusal_of Of1988 done type run) 0)
    (λ t.
    let z = eqb-true (refusal_of Of1988 done type run) 0 t in
    ((passed-alike done type run z, passed-untiled done type run z), later (done ++ (element_of (shape_of Of1988 type) run ∷ [])) (rw t at e)))
    (λ t.
    let f : refused (refusal_of Of1988 done type run) (length done) ≡ accepted elements = rw t at e in
    let z : ◌≡◌ {A = ℕ} 0 1 = cc in
    absurd (omega arith))

from-contained : (t : Tree) (done elements : List Element) → judge_from Of1988 done t ≡ accepted elements → Contained t
unfolding judge_from
from-contained empty done elements e = (tt, tt)
from-contained (leaf type value after) done elements e =
    let (here, rest) = one-contained done type empty after elements (λ more. from-contained after more elements) e in
    ((here.0, rest.0), (here.1, rest.1))
from-contained (branch type inside after) done elements e =
    let (here, rest) = one-contained done type inside after elements (λ more. from-contained after more elements) e in
    ((here.0, rest.0), (here.1, rest.1))

judge-contained : (t : Tree) (elements : List Element) → judge Of1988 t ≡ accepted elements → Contained t
unfolding judge
judge-contained empty elements e = (tt, tt)
judge-contained (leaf type value after) elements e = from-contained (leaf type value after) [] elements e
judge-contained (branch type inside after) elements e = from-contained (branch type inside after) [] elements e

-- the rows
module _ (s : List ℕ) where
  row-agrees : (code first past : ℕ) (inside : Items) → Untiled (type_field code) (plain s inside)
      → row_of (shape_of Of1993 (type_field code)) s first past inside ≡ row_of (shape_of Of1988 (type_field code)) s first past inside
  unfolding shape_of row_of body_in content_octet element_of
  row-agrees code first past inside h =
      cases (is 0xA3 (type_field code))
      (λ t. let e : code_of (type_field code) ≡ 0xA3 = eqb-true (code_of (type_field code)) 0xA3 t in rw (e, h.untiled t))
      (λ t. let same = shapes-agree (type_field code) t h.unprotected in rw same)

  -- an item that is primitive is no text unit
  whole_run : (code : ℕ) (value : List ℕ) (inside after : Tree) (b : Bool) → constructed code ≡ b
      → AllUntiled (formed b (type_field code) value inside after) → Untiled (type_field code) inside × AllUntiled after
  whole_run code value inside after true c h = h
  whole_run code value inside after false c h = (
    record {
      unprotected = h.0.unprotected;
      untiled = λ t.
          let e : code ≡ 0xA3 = eqb-true code 0xA3 (sym (is_field 0xA3 code) ∙ t) in
          absurd (true≢false (sym (ap constructed e) ∙ c));
    },
    h.1,
  )

  rows_agree : (items : Items) → AllUntiled (plain s items) → rows_of Of1993 s items ≡ rows_of Of1988 s items
  unfolding rows_of
  rows_agree no_items h = refl
  rows_agree (item at code first past inside after) h =
      let (here, rest) = whole_run code _ (plain s inside) (plain s after) (constructed code) refl h in
      ap₂ (λ (row : Row) (rows : List Row). row ∷ rows) (row-agrees code at _ inside here) (rows_agree after rest)

  -- the places
  content-agrees : (code : ℕ) (inside : Items) → Untiled (type_field code) (plain s inside)
      → content_places (shape_of Of1993 (type_field code)).contents s inside ≡ content_places (shape_of Of1988 (type_field code)).contents s inside
  unfolding shape_of content_places content_octet
  content-agrees code inside h =
      cases (is 0xA3 (type_field code))
      (λ t. let e : code_of (type_field code) ≡ 0xA3 = eqb-true (code_of (type_field code)) 0xA3 t in rw (e, h.untiled t))
      (λ t. let same = shapes-agree (type_field code) t h.unprotected in rw same)

  places-agree : (items : Items) → AllUntiled (plain s items) → places_of_each Of1993 s items ≡ places_of_each Of1988 s items
  unfolding places_of_each
  places-agree no_items h = refl
  places-agree (item at code first past inside after) h =
      let (here, rest) = whole_run code _ (plain s inside) (plain s after) (constructed code) refl h in
      ap₂ (λ (places : List Span) (more : List (List Span)). places ∷ more) (content-agrees code inside here) (places-agree after rest)

contained : (s : List ℕ) (headers : ℕ) (elements : List Element) → letter_in Of1988 s ≡ letter headers elements → SameLetterIn s headers elements
contained s headers elements e =
    let (all_Alike, untiled) = judge-contained (tree_of s) elements (letter-found Of1988 s headers elements e).judged in
    let same = letters-agree s all_Alike in
    record { accepted = same ∙ e; rows = rows_agree s (items_of_stream s) untiled; matches = λ side. rw same }

-- the order is told by the letter alone
order_alike : (from to : Edition) (s : List ℕ) → letter_in from s ≡ letter_in to s → (class : Class) (r : Ordered) → OrderIs from class s r → OrderIs to class s r
order_alike from to s same class r (by_rule e) = by_rule (sym same ∙ e)
order_alike from to s same class r (in_order e o) = in_order (sym same ∙ e) o
order_alike from to s same class r (out_of_order e f) = out_of_order (sym same ∙ e) f

-- the answers
module _ (s : List ℕ) (same : letter_in Of1993 s ≡ letter_in Of1988 s) where
  -- where the table and the bounds come from: the same rows, or none
  record Tabled : Type 0 where
    check_table : (table : List ℕ) → checked_table Of1993 s table ≡ checked_table Of1988 s table
    list_table : (side : Side) (table : List ℕ) (room : ℕ) → listed_table Of1993 side s table room ≡ listed_table Of1988 side s table room
    content_bounds : (asked : ℕ) → located Of1993 s asked ≡ located Of1988 s asked
    children_table : (table : List ℕ) (row room : ℕ) → related_table Of1993 s table row room ≡ related_table Of1988 s table row room

  by_rows : rows_in Of1993 s ≡ rows_in Of1988 s → Tabled
  unfolding checked checked_table listed listed_table fetched located related related_table
  by_rows rows = record {
    check_table = λ table. rw (same, rows);
    list_table = λ side table room. rw (same, rows);
    content_bounds = λ asked. rw (same, rows);
    children_table = λ table row room. rw (same, rows);
  }

  by-letter : (l : Letter) → letter_in Of1988 s ≡ l → Tabled
  by-letter (letter headers elements) e = by_rows (contained s headers elements e).rows
  by-letter (refusal number place headers) e =
      let f = same ∙ e in
      record {
        check_table = λ table. sym (checks-refused Of1993 s table number place headers f).tabled
            ∙ (checks-refused Of1988 s table number place headers e).tabled;
        list_table = λ side table room. sym (lists-refused Of1993 side s table [] room number place headers f).tabled
            ∙ (lists-refused Of1988 side s table [] room number place headers e).tabled;
        content_bounds = λ asked. sym (fetches-refused Of1993 s asked number place headers f).answered
            ∙ (fetches-refused Of1988 s asked number place headers e).answered;
        children_table = λ table row room. sym (relates-refused Of1993 s table row room [] number place headers f).tabled
            ∙ (relates-refused Of1988 s table row room [] number place headers e).tabled;
      }

  -- the texts, and their lines
  text-alike : (u : ℕ) → text_in Of1993 s u ≡ text_in Of1988 s u
  unfolding joined_in
  text-alike u = ap (λ (l : Letter). (fetched_by all_of l u).part) same

  some-texts : (ms : List Match) → texts_of (text_in Of1993 s) ms ≡ texts_of (text_in Of1988 s) ms
  unfolding texts_of
  some-texts [] = refl
  some-texts (m ∷ ms) = ap₂ (λ (a b : List ℕ). a ++ b) (text-alike m.unit) (some-texts ms)

  some-lines : (first : ℕ) (ms : List Match) → lines_from (text_in Of1993 s) first ms ≡ lines_from (text_in Of1988 s) first ms
  unfolding lines_from
  some-lines first [] = refl
  some-lines first (m ∷ ms) =
      let e : line_of (text_in Of1993 s) first m ≡ line_of (text_in Of1988 s) first m =
      ap (λ (l : List ℕ). record {
        element = m.element;
        portion = m.portion;
        unit = m.unit;
        first = first;
        past = first + length l;
      }) (text-alike m.unit) in
      ap₂ (λ (l : Line) (ls : List Line). l ∷ ls) e (some-lines (line_of (text_in Of1993 s) first m).past ms
      ∙ ap (λ (l : Line). lines_from (text_in Of1988 s) l.past ms) e)

  texts-alike : (side : Side) → texts_in Of1993 side s ≡ texts_in Of1988 side s
  unfolding texts_in
  texts-alike side = some-texts (matches_in Of1993 side s) ∙ ap (λ (l : Letter). texts_of (text_in Of1988 s) (matches_by side l)) same

  lines-alike : (side : Side) → lines_in Of1993 side s ≡ lines_in Of1988 side s
  unfolding lines_in
  lines-alike side = some-lines 0 (matches_in Of1993 side s) ∙ ap (λ (l : Letter). lines_from (text_in Of1988 s) 0 (matches_by side l)) same

  some-sources : ((u : ℕ) → places_in Of1993 s u ≡ places_in Of1988 s u) → (line : ℕ) (ms : List Match)
      → sources_from (places_in Of1993 s) line ms ≡ sources_from (places_in Of1988 s) line ms
  unfolding sources_from
  some-sources places line [] = refl
  some-sources places line (m ∷ ms) =
      ap₂ (λ (own more : List Source). own ++ more) (ap (line_sources line) (places m.unit)) (some-sources places (suc line) ms)

  sources-by : (l : Letter) → letter_in Of1988 s ≡ l → (side : Side) → sources_in Of1993 side s ≡ sources_in Of1988 side s
  unfolding sources_in places_in
  sources-by (letter headers elements) e side =
      let untiled = (judge-contained (tree_of s) elements (letter-found Of1988 s headers elements e).judged).1 in
      let each = places-agree s (items_of_stream s) untiled in
      rw (same, e) (some-sources (λ u. ap (λ (ps : List (List Span)). get_or ps u []) each) 0 (matches side elements))
  sources-by (refusal number place headers) e side = rw (same, e)

  sources-alike : (side : Side) → sources_in Of1993 side s ≡ sources_in Of1988 side s
  sources-alike side = sources-by (letter_in Of1988 s) refl side

  text-table-by : (l : Letter) → letter_in Of1988 s ≡ l → (side : Side) (table : List ℕ) (room : ℕ) (out : List ℕ)
      → shown_table Of1993 side s table room out ≡ shown_table Of1988 side s table room out
  unfolding listed text_read shown_table
  text-table-by (letter headers elements) e side table room out =
      let rows = (contained s headers elements e).rows in
      rw (same, rows, texts-alike side)
  text-table-by (refusal number place headers) e side table room out =
      sym (text-ruled Of1993 side s table [] room out number place headers (same ∙ e)).tabled
      ∙ (text-ruled Of1988 side s table [] room out number place headers e).tabled

  same-answers : SameAnswers s
  unfolding checked written written_output written_short written_short_output listed listed_list fetched joined_in copied copied_output related related_list text_read text_lines text_output sourced sourced_list ruled date_of dated
  same-answers =
      let tables = by-letter (letter_in Of1988 s) refl in
      record {
        check = λ table. rw same;
        check_table = tables.check_table;
        normal = λ out. rw same;
        normal_output = λ out. rw same;
        short = λ out. rw same;
        short_output = λ out. rw same;
        list = λ side table room. rw same;
        list_table = tables.list_table;
        list_records = λ side table list. rw same;
        content = λ asked. rw same;
        content_bounds = tables.content_bounds;
        joined = λ asked out. rw same;
        joined_output = λ asked out. rw same;
        children = λ table row room. rw same;
        children_table = tables.children_table;
        children_rows = λ table row list. rw same;
        text = λ side table room out. rw (same, texts-alike side);
        text_table = text-table-by (letter_in Of1988 s) refl;
        text_lines_alike = λ side table lines out. rw (same, texts-alike side, lines-alike side);
        text_output_alike = λ side table room out. rw (same, texts-alike side);
        sources = λ side list. rw (same, sources-alike side);
        sources_list = λ side list. rw (same, sources-alike side);
        date = rw same;
        date_bounds = rw same;
        order = λ class r. (order_alike Of1993 Of1988 s same class r, order_alike Of1988 Of1993 s (sym same) class r);
      }

-- rules 10 and 11 of a first element that is read alike
octet-agrees : (type : List ℕ) (run : Tree) → Alike type run → (shape_of Of1993 type).octet ≡ (shape_of Of1988 type).octet
unfolding shape_of
octet-agrees type run h =
    cases (is 0xA3 type)
    (λ t. let e : code_of type ≡ 0xA3 = eqb-true (code_of type) 0xA3 t in rw e)
    (λ t. let same = shapes-agree type t h.unprotected in ap (λ (shape : Shape). shape.octet) same)

rule-agrees : (t : Tree) → AllAlike t → first_rule Of1993 t ≡ first_rule Of1988 t
rule-agrees empty h = refl
rule-agrees (leaf type value after) h = rw (octet-agrees type empty h.0)
rule-agrees (branch type inside after) h = rw (octet-agrees type inside h.0)

alone-agrees : (t : Tree) → AllAlike t → (how : End) → ruled_alone Of1993 t how ≡ ruled_alone Of1988 t how
alone-agrees t h (ends next) = rw (rule-agrees t h)
alone-agrees t h (stops number place) = refl

first_alike : (s : List ℕ) → agree (first_tree s) ≡ true → (first_date_of Of1993 s ≡ first_date_of Of1988 s) × (first_dated Of1993 s ≡ first_dated Of1988 s)
unfolding first_ruled first_date_of first_dated
first_alike s e = let same = alone-agrees (first_tree s) (agree-alike (first_tree s) e) (walk_first s).how in (rw same, rw same)

-- protected parts have no names: a shape of 1993 with a kind above 8 is one of theirs
abbrev NoName : Shape → Type 0
NoName shape = (run : Tree) → 8 < (element_of shape run).kind → Unnamed (element_of shape run)

abbrev AllOf : (Shape → Type 0) → Shapes → Type 0
AllOf P [] = Unit {0}
AllOf P (shape ∷ shapes) = P shape × AllOf P shapes

one_of : (b : Bool) (x y : Shape) → NoName x → NoName y → NoName (cond b x y)
one_of true x y p q = p
one_of false x y p q = q

among : (shapes : Shapes) → AllOf NoName shapes → NoName no_shape → (type : List ℕ) → NoName (shape_in shapes type)
among [] m n type = n
among (shape ∷ shapes) m n type = one_of (is shape.octet type) shape (shape_in shapes type) m.0 (among shapes m.1 n type)

low-kind : (octet : ℕ) (contents : Contents) → leb (octet % 32) 8 ≡ true → NoName (entry octet contents)
unfolding element_of
low-kind octet contents low run above = absurd (omega (arith, leb-true (octet % 32) 8 low))

no_name : (octet : ℕ) (enciphered : Bool) → NoName (entry octet (protected enciphered))
unfolding element_of body_of values
no_name octet enciphered run above = record { object = refl; identifier = refl; logical = refl; portions = refl }

no_names : (type : List ℕ) → NoName (shape_of Of1993 type)
unfolding shape_of
no_names type =
    among shapes1993 (
      low-kind _ _ refl,
      (
        no_name 0xA9 false,
        (
          no_name 0xAA true,
          (
            no_name 0xAB true,
            (
              no_name 0xAC true,
              (
                low-kind _ _ refl,
                (
                  low-kind _ _ refl,
                  (
                    low-kind _ _ refl,
                    (
                      low-kind _ _ refl,
                      (low-kind _ _ refl, (low-kind _ _ refl, (low-kind _ _ refl, (low-kind _ _ refl, tt)))),
                    ),
                  ),
                ),
              ),
            ),
          ),
        ),
      ),
    )
    (low-kind 0 profile refl) type

-- what is in a list that was made of another comes from there
made-from : (items : List TopItem) (j : ℕ) (element : Element) → get_elem? (map (says_in Of1993) items) j ≡ some element
    → (top : TopItem) × (says_in Of1993 top ≡ element)
made-from [] j element e = let z : ◌≡◌ {A = ℕ} 0 1 = cc in absurd (omega arith)
made-from (top ∷ items) zero element e = let f : says_in Of1993 top ≡ element = cc in (top, f)
made-from (top ∷ items) (suc j) element e = made-from items j element e

unnamed : (s : List ℕ) (headers : ℕ) (elements : List Element) → letter_in Of1993 s ≡ letter headers elements
    → (j : ℕ) (element : Element) → get_elem? elements j ≡ some element → 8 < element.kind → Unnamed element
unnamed s headers elements e j element there above =
    let found = letter-found Of1993 s headers elements e in
    let All-Said = accepted-elements Of1993 (tree_of s) elements found.judged in
    let (top, says) = made-from (top_items (tree_of s)) j element (sym (ap (λ (es : List Element). get_elem? es j) All-Said) ∙ there) in
    subst Unnamed says (no_names top.type top.run (subst (λ (x : Element). 8 < x.kind) (sym says) above))

-- no kind of a side is above 8
side-low : (side : Side) (kind : ℕ) → is_in kind (kinds_of side) ≡ true → 8 < kind → ⊥
side-low Layout kind e above =
    let one = ne_eqb kind 1 (λ z. omega arith) in
    let two = ne_eqb kind 2 (λ z. omega arith) in
    let no_items : is_in kind (kinds_of Layout) ≡ false = rw (one, two) in
    true≢false (sym e ∙ no_items)
side-low Logical kind e above =
    let five = ne_eqb kind 5 (λ z. omega arith) in
    let six = ne_eqb kind 6 (λ z. omega arith) in
    let no_items : is_in kind (kinds_of Logical) ≡ false = rw (five, six) in
    true≢false (sym e ∙ no_items)

-- what stands at one place is one element
one-there : (elements : List Element) {i j : ℕ} {d e : Element} → get_elem? elements i ≡ some d → i ≡ j → get_elem? elements j ≡ some e → d ≡ e
one-there elements {i} {j} {d} {e} p q r =
    let same : some d ≡ some e = sym p ∙ ap (get_elem? elements) q ∙ r in
    let told : d ≡ e = cc in
    told

unmatched : (elements : List Element) (j : ℕ) (element : Element) → get_elem? elements j ≡ some element → 8 < element.kind
    → (side : Side) (m : Match) → IsMatch side elements m → (m.element ≡ j → ⊥) × (m.unit ≡ j → ⊥)
unmatched elements j element there above side m is_match = (
  λ e.
      let same = one-there elements is_match.element_there e there in
      side-low side is_match.element.kind is_match.joined.on_side (subst (λ (x : Element). 8 < x.kind) (sym same) above),
  λ e.
      let same = one-there elements is_match.unit_there e there in
      let unit-above : 8 < is_match.unit.kind = subst (λ (x : Element). 8 < x.kind) (sym same) above in
      let unit-kind : is_match.unit.kind ≡ 3 = is_match.joined.of_unit in
      omega arith,
)

-- 10 at the first protected part
module _ (s : List ℕ) (j : ℕ) (top : TopItem) (there : get_elem? (top_items (tree_of s)) j ≡ some top) (is-protected : is_protected top.type ≡ true) where
  abbrev tops : List TopItem
  tops = top_items (tree_of s)

  not_earlier : j < most_elements → (n : ℕ) → n < 10 → Refuses Of1988 (take j tops) top n → ⊥
  not_earlier few n l (too_many m) = omega (arith, length-take-le j tops (omega (arith, below_length tops j top there)))
  not_earlier few n l (unknown e) = omega arith
  not_earlier few n l (no_profile z e) = omega arith
  not_earlier few n l (later_profile m e) = omega arith
  not_earlier few n l (misshapen e) = omega arith
  not_earlier few n l (mistyped e) = omega arith
  not_earlier few n l (misspelt e) = omega arith
  not_earlier few n l (repeated e) = omega arith

  ten : (at headers : ℕ) → walk_of s ≡ ended at headers → PassedBefore s j → j < most_elements
      → letter_in Of1988 s ≡ refusal 10 (place_of j (items_of_stream s)) headers
  ten at headers walked before few =
      let refuses = at_element (record {
        item = top;
        there = there;
        refuses = unknown (unlisted top.type Of1988 (protected-unknown top.type is-protected));
        no_earlier = not_earlier few;
        all_before = before;
      }) in
      refused-element Of1988 s at headers 10 j walked (by-refused Of1988 (tree_of s) (typed-stream s) 10 j refuses (judge Of1988 (tree_of s)) refl)

  fills-none : (table : List ℕ) (l : Letter) → letter_in Of1988 s ≡ l → FillsNone s table
  fills-none table (letter headers elements) e =
      let found = letter-found Of1988 s headers elements e in
      absurd (accepted-pass Of1988 (tree_of s) (typed-stream s) elements found.judged j top there 10
      (unknown (unlisted top.type Of1988 (protected-unknown top.type is-protected))))
  fills-none table (refusal number place headers) e = record {
    check = sym (checks-refused Of1988 s table number place headers e).tabled;
    list = λ side room. sym (lists-refused Of1988 side s table [] room number place headers e).tabled;
    children = λ row room. sym (relates-refused Of1988 s table row room [] number place headers e).tabled;
    text = λ side room out. sym (text-ruled Of1988 side s table [] room out number place headers e).tabled;
  }

pub editions : Editions
editions = record {
  contained = contained;
  alike = λ s e. same-answers s (letters-agree s (agree-alike (tree_of s) e));
  first_alike = first_alike;
  unnamed = unnamed;
  unmatched = unmatched;
  ten = λ s at headers j top walked there protected before few. ten s j top there protected at headers walked before few;
  no_row = λ s j top there protected table. fills-none s j top there protected table (letter_in Of1988 s) refl;
}
