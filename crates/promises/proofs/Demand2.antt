-- Demand 2: accepted is what X.209 codes, by the theorem of the crate tree, with elements that the shapes pass. The normal form codes the same
-- tree, so all that depends on the tree alone is the same of it.
use mathlib.Core.Path.{◌≡◌, refl, ap, sym, ◌∙◌}
use mathlib.Core.Logic.{◌↔◌}
use mathlib.Core.Bool.{false, false≢true}
use mathlib.Core.List.{List}
use mathlib.Core.Option.{some}
use Prim.Native.Nat.{ℕ, ◌/◌, ◌<◌, ◌≤◌}
use native.Mathlib.Omega.{arith}
use lib.Dec.{eqb, ltb}
use lib.ListN.{length, get_elem?}
use borrow.Author.Tests.{ne_eqb, eq-eqb, eqb-true, le-ltb, ltb-true, ltb-false}
use borrow.Table.Steps.{cases}
use Rattle.octets.specs.Told.{ended}
use Rattle.octets.specs.Walk.{stream_limit, deepest, walk_of}
use Rattle.octets.proofs.RulesHold.{derives}
use Rattle.tree.specs.Tree.{tree_of}
use Rattle.tree.specs.Accepts.{Accepts}
use Rattle.tree.proofs.Meaning.{means, accepts}
use Rattle.runs.proofs.Laws.{stream-fine, stream-count}
use Rattle.normal.specs.Normal.{normal_form}
use Rattle.normal.proofs.RoundTrip.{round_trip, form-tree, form-definite}
use Rattle.answers.specs.Table.{table_width}
use Rattle.elements.specs.declared.Row.{Row}
use Rattle.elements.specs.declared.Edition.{Edition}
use Rattle.elements.specs.Judge.{Element, accepted, judge}
use Rattle.letters.specs.Letter.{Letter, letter, refusal, items_of_stream, letter_in, rows_in}
use Rattle.letters.proofs.Table.{end_to_end, pairs_within}
use Rattle.judging.proofs.Lists.{below_length, at-below}
use Rattle.answers.specs.Answers.{onto, table_of, checked, checked_table, written, written_output, listed, Fetched, fetched, located, Stands, joined_in, copied}
use Rattle.promises.specs.Refusals.{TopItem, top_items}
use Rattle.promises.specs.Demands.{IsLetterOf, TellsContent, RowTells, UnitAt, OfLetter, RefusedByAll, Demand2, item_count}
use Rattle.letters.proofs.Letters.{Found, letter-found, accepted-letter}
use Rattle.answers.proofs.Judging.{accepts-walked}
use Rattle.answers.proofs.Small.{refusal-small}
use Rattle.promises.proofs.Demand1.{demand1}
use Rattle.promises.proofs.Refusals.{refused_is}
use Rattle.promises.proofs.Alone.{alone}
use Rattle.promises.proofs.Telling.{Proper, proper, count-tree, tops_counted, rows_counted, rows_tell}
use Rattle.promises.proofs.Joining.{told-within, content, content_20, content_21, joins, joins_20, joins_22, part_joined}
use Rattle.promises.proofs.Locating.{located-nowhere, located-part}
use Rattle.answers.proofs.Checks.{checks-letter}

-- the header count of a walk that ended is the tree's item count
headers-tree : (s : List ℕ) (at headers : ℕ) → walk_of s ≡ ended at headers → headers ≡ item_count (tree_of s)
headers-tree s at headers w = (stream-count s at headers w).1 ∙ count-tree (derives deepest s 0 (length s) false (omega arith))

module _ (edition : Edition) (s : List ℕ) (headers : ℕ) (elements : List Element) where
  letter-is : letter_in edition s ≡ letter headers elements → IsLetterOf edition s headers elements
  letter-is e =
      let f = letter-found edition s headers elements e in
      let (c, l) = means s (tree_of s) (accepts-walked f.walked) in
      record { tree = tree_of s; coded = c; within = l; shaped = f.judged; counted = headers-tree s f.at headers f.walked }

  is_letter : IsLetterOf edition s headers elements → letter_in edition s ≡ letter headers elements
  is_letter i =
      let a = accepts s i.tree i.coded i.within in
      let j : judge edition (tree_of s) ≡ accepted elements = ap (judge edition) a.tree ∙ i.shaped in
      let h : a.headers ≡ headers = headers-tree s a.at a.headers a.ended ∙ ap item_count a.tree ∙ sym i.counted in
      accepted-letter edition s a.at a.headers elements a.ended j ∙ ap (λ (n : ℕ). letter n elements) h

module _ (edition : Edition) (s : List ℕ) (headers : ℕ) (elements : List Element) (e : letter_in edition s ≡ letter headers elements) where
  found : Found edition s headers elements
  found = letter-found edition s headers elements e

  -- its rows
  items-proper : Proper s deepest (items_of_stream s)
  items-proper =
      let fine = stream-fine s found.at headers found.walked in
      proper (derives deepest s 0 (length s) false fine.order) fine.whole (omega arith)

  pub counted : length (rows_in edition s) ≡ length elements
  counted = rows_counted edition s items-proper elements found.judged

  pub tell : (j : ℕ) (row : Row) (item : TopItem) (element : Element) → get_elem? (rows_in edition s) j ≡ some row → get_elem? (top_items (tree_of s)) j ≡ some item
      → get_elem? elements j ≡ some element → RowTells edition s row item element
  tell =
      let fine = stream-fine s found.at headers found.walked in
      rows_tell edition s items-proper elements found.judged (alone (derives deepest s 0 (length s) false fine.order) refl fine.whole (omega arith))

  -- each element stands in the tree
  pub top-at : (j : ℕ) (element : Element) → get_elem? elements j ≡ some element → (item : TopItem) × (get_elem? (top_items (tree_of s)) j ≡ some item)
  top-at j element there = at-below (top_items (tree_of s)) j (omega (
    arith,
    below_length elements j element there,
    tops_counted edition s items-proper elements found.judged,
  ))

  -- the check
  checks : (table : List ℕ) → length elements ≤ length table / table_width
      → (checked edition s table ≡ record {
        number = 0;
        place = 0;
        headers = headers;
        elements = length elements;
      }) × (checked_table edition s table ≡ table_of edition s table)
  checks table enough = let r = checks-letter edition s table headers (length elements) elements e refl enough in (sym r.answered, sym r.tabled)

  checks_16 : (table : List ℕ) → ((checked edition s table).number ≡ 16) ↔ (length table / table_width < length elements)
  unfolding checked
  checks_16 table =
      cases (ltb (length table / table_width) (length elements))
      (λ t. rw (e, t) (λ _. ltb-true (length table / table_width) (length elements) t, λ _. refl))
      (λ t. rw (e, t) (λ p. absurd (omega arith), λ l. absurd (omega (arith, ltb-false (length table / table_width) (length elements) t))))

  -- the normal form that is written
  abbrev size : ℕ
  size = length (normal_form s)

  pub writes : (out : List ℕ) → size ≤ stream_limit → size ≤ length out
      → (written edition s out ≡ record { number = 0; place = 0; length = size }) × (written_output edition s out ≡ onto (normal_form s) out)
  unfolding written written_output
  writes out within room =
      let a : ltb stream_limit size ≡ false = le-ltb stream_limit size within in
      let b : ltb (length out) size ≡ false = le-ltb (length out) size room in
      (rw (e, a, b), rw (e, a, b))

  writes_17 : (out : List ℕ) → ((written edition s out).number ≡ 17) ↔ (stream_limit < size)
  unfolding written
  writes_17 out =
      cases (ltb stream_limit size)
      (λ t. rw (e, t) (λ _. ltb-true stream_limit size t, λ _. refl))
      (λ t.
      let l = ltb-false stream_limit size t in
      cases (ltb (length out) size)
      (λ u. rw (e, t, u) (λ p. absurd (omega arith), λ k. absurd (omega arith)))
      (λ u. rw (e, t, u) (λ p. absurd (omega arith), λ k. absurd (omega arith))))

  writes_18 : (out : List ℕ) → ((written edition s out).number ≡ 18) ↔ ((size ≤ stream_limit) × (length out < size))
  unfolding written
  writes_18 out =
      cases (ltb stream_limit size)
      (λ t. let l = ltb-true stream_limit size t in rw (e, t) (λ p. absurd (omega arith), λ k. absurd (omega arith)))
      (λ t.
      let l = ltb-false stream_limit size t in
      cases (ltb (length out) size)
      (λ u. let m = ltb-true (length out) size u in rw (e, t, u) (λ _. (l, m), λ _. refl))
      (λ u. let m = ltb-false (length out) size u in rw (e, t, u) (λ p. absurd (omega arith), λ k. absurd (omega arith))))

  -- the normal form that is read
  module _ (within : size ≤ stream_limit) where
    accepts-again : Accepts (normal_form s) (tree_of s)
    accepts-again = round_trip s (tree_of s) (accepts-walked found.walked) within

    pub normal_accepted : letter_in edition (normal_form s) ≡ letter headers elements
    normal_accepted =
        let (c, l) = means (normal_form s) (tree_of s) accepts-again in
        is_letter edition (normal_form s) headers elements
        (record { tree = tree_of s; coded = c; within = l; shaped = found.judged; counted = headers-tree s found.at headers found.walked })

  pub normal_tree : tree_of (normal_form s) ≡ tree_of s
  normal_tree = form-tree s (tree_of s) (accepts-walked found.walked)

of_letter : (edition : Edition) (s : List ℕ) (headers : ℕ) (elements : List Element) → letter_in edition s ≡ letter headers elements
    → OfLetter edition s headers elements
of_letter edition s headers elements e =
    let f = found edition s headers elements e in
    let fine = stream-fine s f.at headers f.walked in
    record {
      coded = (means s (tree_of s) (accepts-walked f.walked)).0;
      checks = checks edition s headers elements e;
      checks_16 = checks_16 edition s headers elements e;
      end_to_end = end_to_end edition s fine;
      pairs_within = pairs_within edition s fine;
      rows_counted = counted edition s headers elements e;
      tops_counted = tops_counted edition s (items-proper edition s headers elements e) elements f.judged;
      rows_tell = tell edition s headers elements e;
      content = content edition s headers elements e;
      content_20 = content_20 edition s headers elements e;
      content_21 = content_21 edition s headers elements e;
      joins = joins edition s headers elements e;
      joins_20 = joins_20 edition s headers elements e;
      joins_22 = joins_22 edition s headers elements e;
      joins_within = λ j unit at row p.
          let (item, there) = top-at edition s headers elements e j unit at.there in
          told-within s row.content unit.content (tell edition s headers elements e j row item unit p there at.there).content;
      part_joined = part_joined edition s headers elements e;
      writes = writes edition s headers elements e;
      writes_17 = writes_17 edition s headers elements e;
      writes_18 = writes_18 edition s headers elements e;
      normal_accepted = normal_accepted edition s headers elements e;
      normal_tree = normal_tree edition s headers elements e;
      normal_coded = (form-definite s (tree_of s) (accepts-walked f.walked)).0;
    }

-- what every question gives to a stream that is refused
refused_alike : (edition : Edition) (s : List ℕ) (number place headers : ℕ) → letter_in edition s ≡ refusal number place headers
    → RefusedByAll edition s number place headers
unfolding checked written listed fetched joined_in copied
refused_alike edition s number place headers e =
    let other : eqb number 0 ≡ false = ne_eqb number 0 (λ z. omega (arith, (refusal-small edition s number place headers e).low)) in
    record {
      check = λ table. rw e;
      normal = λ out. rw e;
      list = λ side table room. rw e;
      content = λ asked. rw e;
      joined = λ asked out. rw (e, other);
    }

-- where the part of an element stands: by what the stream is
module _ (edition : Edition) (s : List ℕ) (asked : ℕ) where
  row_at : (headers : ℕ) (elements : List Element) → letter_in edition s ≡ letter headers elements → (unit : Element) → UnitAt elements asked unit
      → (row : Row) × (get_elem? (rows_in edition s) asked ≡ some row) × TellsContent s row.content unit.content
  row_at headers elements e unit at =
      let (item, on-top) = top-at edition s headers elements e asked unit at.there in
      let (row, there) = at-below (rows_in edition s) asked (omega (
        arith,
        below_length elements asked unit at.there,
        counted edition s headers elements e,
      )) in
      (row, there, (tell edition s headers elements e asked row item unit there on-top at.there).content)

  located-by : (l : Letter) → letter_in edition s ≡ l → (fetched edition s asked).number ≡ 0 → Stands edition s asked (located edition s asked).first
      (located edition s asked).past
  located-by (refusal number place headers) e p =
      let q = ap (λ (f : Fetched). f.number) ((refused_alike edition s number place headers e).content asked) in
      absurd (omega (arith, (refusal-small edition s number place headers e).low))
  located-by (letter headers elements) e p =
      let f = found edition s headers elements e in
      located-part edition s asked e (stream-fine s f.at headers f.walked) (row_at headers elements e) p

  located_stands : Stands edition s asked (located edition s asked).first (located edition s asked).past
  located_stands =
      cases (eqb (fetched edition s asked).number 0)
      (λ t. located-by (letter_in edition s) refl (eqb-true (fetched edition s asked).number 0 t))
      (λ t. located-nowhere edition s asked t ((demand1 edition).content_empty s asked (λ z. false≢true (sym t ∙ eq-eqb (fetched edition s asked).number 0 z))))

pub demand2 : (edition : Edition) → Demand2 edition
demand2 edition = record {
  accepted_is = λ s headers elements. (letter-is edition s headers elements, is_letter edition s headers elements);
  refused_is = λ s. refused_is edition s;
  refused_alike = refused_alike edition;
  of_letter = of_letter edition;
  located_stands = located_stands edition;
}
