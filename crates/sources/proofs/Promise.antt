-- Each octet on the screen is an octet of this stream, at a place that is told: the sources of a side are the places of its units, line by line; a unit has
-- at most one match on a side; and the places of two elements share no octet.
use mathlib.Core.Path.{◌≡◌, refl, ap, sym, ◌∙◌, subst}
use mathlib.Core.Bool.{false}
use mathlib.Core.List.{List, map, Memᴰ}
use mathlib.Core.Logic.{◌⊎◌, inl, inr}
use mathlib.Core.Option.{some}
use Prim.Native.Nat.{ℕ, ◌+◌, ◌<◌, ◌≤◌}
use native.Mathlib.Omega.{arith}
use borrow.Author.Tests.{ltb-true, ltb-false}
use borrow.Table.Steps.{cases}
use lib.Dec.{ltb, leb}
use lib.ListN.{length, get_or, get_elem?}
use Rattle.octets.specs.Told.{ended, refused}
use Rattle.octets.specs.Walk.{Items, End, ends, stops, count, outcome_of, answer, stream_limit, walk_of, deepest}
use Rattle.octets.proofs.Told.{same-ended}
use Rattle.octets.proofs.RulesHold.{derives}
use Rattle.tree.specs.Tree.{tree_of}
use Rattle.tree.specs.Accepts.{Whole}
use Rattle.runs.specs.Runs.{walk_in, whole_stream, Fine}
use Rattle.runs.proofs.Laws.{stream-fine}
use Rattle.contents.specs.declared.Span.{Span}
use Rattle.elements.specs.declared.Edition.{Edition}
use Rattle.elements.specs.declared.Row.{Row}
use Rattle.elements.specs.Judge.{joined_content, Element}
use Rattle.judging.proofs.Lists.{below_length, at-below}
use Rattle.letters.specs.Letter.{letter, items_of_stream, rows_in, letter_in}
use Rattle.letters.proofs.Apart.{accepted-apart}
use Rattle.letters.proofs.Letters.{Found, letter-found}
use Rattle.letters.proofs.Standing.{Hollow, hollow}
use Rattle.reading.specs.declared.Match.{Match}
use Rattle.reading.specs.declared.Side.{Side}
use Rattle.reading.specs.Match.{matches, IsMatch}
use Rattle.reading.specs.Lists.{Sorted, Once}
use Rattle.reading.proofs.Lists.{in-member, sorted-at, once-map, once-fits}
use Rattle.reading.proofs.Matches.{matches-are, matches-once}
use Rattle.reading.proofs.Single.{unit-one-match}
use Rattle.sources.specs.Places.{octets_at, origin_of, Ascend}
use Rattle.sources.specs.Units.{places_of_each, places_in}
use Rattle.sources.specs.Sources.{Source, sources_from, places_for, places_from}
use Rattle.sources.specs.Sources.{sources_in}
use Rattle.sources.specs.Promise.{Shows, LineFrom, FromThisStream}
use Rattle.sources.proofs.Places.{run-ascends, places-items, ascend-few}
use Rattle.sources.proofs.Origins.{InStream, PlacesApart, origin-read, origin-lies, origin-once}
use Rattle.sources.proofs.Lines.{Comes, comes, sources-read, line-places, SourcesApart, sources-apart, texts-same, for-length, whose, for-once, for-in}
use Rattle.sources.proofs.Lines.{for-sorted}
use Rattle.sources.proofs.Units.{Own, owns, element-read, elements-rows, row-ascends}
use Rattle.sources.proofs.Among.{flat, each-ascends, each-few, lies, one-ascends-in, in-one-in-all, before-later}

-- the header count of a letter is how many items it has
ended-count : (n at headers : ℕ) (e : End) → outcome_of n e ≡ ended at headers → n ≡ headers
ended-count n at headers (ends to) p = (same-ended p).1
ended-count n at headers (stops number place) p = absurd cc

header-count : (s : List ℕ) (at headers : ℕ) → walk_of s ≡ ended at headers → count (items_of_stream s) ≡ headers
unfolding walk_of
header-count s at headers w =
    cases (leb (length s) stream_limit)
    (λ t.
    let p : answer (walk_in s (whole_stream s)) ≡ ended at headers = rw t at w in
    ended-count (count (items_of_stream s)) at headers (walk_in s (whole_stream s)).how p)
    (λ t. let p : refused 1 0 0 ≡ ended at headers = rw t at w in absurd cc)

owns-all : {s : List ℕ} → Fine s (whole_stream s) → (e : End) → (walk_in s (whole_stream s)).how ≡ e → Whole e → Own (items_of_stream s)
owns-all {s} fine (ends next) e w = owns (derives deepest s 0 (length s) false fine.order) next e
owns-all fine (stops number place) e w = absurd w

module _ (edition : Edition) (side : Side) (s : List ℕ) (headers : ℕ) (elements : List Element) (is_letter : letter_in edition s ≡ letter headers elements) where
  abbrev known : Found edition s headers elements
  known = letter-found edition s headers elements is_letter

  fine : Fine s (whole_stream s)
  fine = stream-fine s known.at headers known.walked

  abbrev items : Items
  items = items_of_stream s

  hollow-all : Hollow items
  hollow-all = hollow (derives deepest s 0 (length s) false fine.order)

  abbrev places : ℕ → List Span
  places = places_in edition s

  abbrev ms : List Match
  ms = matches side elements

  abbrev sources : List Source
  sources = sources_from places 0 ms

  pub sources-are : sources_in edition side s ≡ sources
  unfolding sources_in
  sources-are = rw is_letter

  all-ascend : Ascend 0 (length s) (flat (places_of_each edition s items))
  all-ascend = each-ascends edition s items hollow-all 0 (length s) (run-ascends fine)

  each-one : (u : ℕ) → Ascend 0 (length s) (places u)
  unfolding places_in
  each-one u = one-ascends-in 0 (length s) (places_of_each edition s items) all-ascend u

  units-apart : (u v : ℕ) → (u ≡ v → ⊥) → (p q : Span) → Memᴰ p (places u) → Memᴰ q (places v) → (p.past ≤ q.first) ⊎ (q.past ≤ p.first)
  unfolding places_in
  units-apart u v d p q m n =
      let pss = places_of_each edition s items in
      cases (ltb u v)
      (λ t. inl (before-later 0 (length s) pss all-ascend u v (ltb-true u v t) p q m n))
      (λ t.
      let l = ltb-false u v t in
      let k : v < u = later u v l d in
      inr (before-later 0 (length s) pss all-ascend v u k q p n m))
    where
      later : (u v : ℕ) → v ≤ u → (u ≡ v → ⊥) → v < u
      later u v l d = cases (ltb v u) (λ t. ltb-true v u t) (λ t. let k = ltb-false v u t in absurd (d (omega arith)))

  once-units : Once (map (λ (m : Match). m.unit) ms)
  once-units =
      once-map (λ (m : Match). m.unit) ms (matches-once side elements)
      (λ m n a b.
      unit-one-match elements (accepted-apart edition (tree_of s) elements known.judged) side m n (matches-are side elements m a)
      (matches-are side elements n b))

  all_apart : Sorted (SourcesApart places) sources
  all_apart = sources-apart places (length s) each-one units-apart 0 ms once-units

  unit-reads : (m : Match) (i : IsMatch side elements m) → octets_at s (places m.unit) ≡ joined_content i.unit.content
  unit-reads m i = element-read edition s hollow-all elements known.judged m.unit i.unit i.unit_there

  -- line k has the places of its unit
  line-is : (k : ℕ) (m : Match) → get_elem? ms k ≡ some m → places_from k (sources_in edition side s) ≡ places m.unit
  line-is k m there = let z : 0 + k ≡ k = omega arith in rw sources-are (ap (λ (j : ℕ). places_from j sources) (sym z) ∙ line-places places 0 ms k m there)

  own_row : (m : Match) → IsMatch side elements m → (row : Row) × (get_elem? (rows_in edition s) m.unit ≡ some row)
  own_row m i =
      at-below (rows_in edition s) m.unit
      (omega (arith, below_length elements m.unit i.unit i.unit_there, elements-rows edition s hollow-all elements known.judged))

  each_line : (k : ℕ) (m : Match) → get_elem? ms k ≡ some m → LineFrom edition side s elements k m
  unfolding places_in
  each_line k m there =
      let i = matches-are side elements m (in-member m ms k there) in
      let is = line-is k m there in
      let (row, stands) = own_row m i in
      record {
        is_match = i;
        text = ap (octets_at s) is ∙ unit-reads m i;
        row = row;
        row_stands = stands;
        inside = subst (Ascend row.content.first row.content.past) (sym is)
            (row-ascends edition s items (owns-all fine (walk_in s (whole_stream s)).how refl fine.whole) m.unit row stands);
      }

  came : (x : Source) → Memᴰ x sources → Comes places 0 ms x
  came x m = comes places 0 ms x m

  lies_in : (x : Source) → Memᴰ x sources → (x.place.first < x.place.past) × (x.place.past ≤ length s)
  lies_in x m =
      let c = came x m in
      let l = lies 0 (length s) (places c.match.unit) (each-one c.match.unit) x.place c.place_there in
      (l.some_octet, l.high)

  -- one that is shown by two is shown by one
  only-once : (i j at : ℕ) (x y : Source) → i < j → get_elem? sources i ≡ some x → get_elem? sources j ≡ some y → Shows x at → Shows y at → ⊥
  only-once i j at x y l p q a b = both (sorted-at (SourcesApart places) sources all_apart i j x y l p q)
    where
      both : SourcesApart places x y → ⊥
      both (inl o) = omega (arith, a.1, b.0)
      both (inr o) = omega (arith, a.0, b.1)

  same_source : (i j at : ℕ) (x y : Source) → get_elem? sources i ≡ some x → get_elem? sources j ≡ some y → Shows x at → Shows y at → i ≡ j
  same_source i j at x y p q a b =
      cases (ltb i j)
      (λ t. absurd (only-once i j at x y (ltb-true i j t) p q a b))
      (λ t.
      cases (ltb j i)
      (λ u. absurd (only-once j i at y x (ltb-true j i u) q p b a))
      (λ u. let k = ltb-false i j t in let l = ltb-false j i u in omega arith))

  -- there are no more than places of elements, which are no more than octets and no more than items
  among-all : length sources ≤ length (flat (places_of_each edition s items))
  unfolding places_in
  among-all =
      let once = for-once sources all_apart (λ x m. (lies_in x m).0) in
      let all = once-fits (places_for sources) (flat (places_of_each edition s items)) once
      (λ p m. let w = whose sources p m in let c = came w.source w.there in
      in-one-in-all (places_of_each edition s items) c.match.unit p
      (subst (λ (q : Span). Memᴰ q (places c.match.unit)) w.its c.place_there)) in
      omega (arith, for-length sources)

  pub sources-short : length (sources_in edition side s) ≤ length s
  sources-short =
      let few = ascend-few 0 (length s) (flat (places_of_each edition s items)) all-ascend in
      subst (λ (xs : List Source). length xs ≤ length s) (sym sources-are) (omega (arith, among-all))

  few : length sources ≤ headers
  few = omega (arith, among-all, each-few edition s items hollow-all, places-items items, header-count s known.at headers known.walked)

  all_in : InStream s (places_for sources)
  all_in = for-in s sources lies_in

  all-sorted : Sorted PlacesApart (places_for sources)
  all-sorted = for-sorted sources all_apart

  octets-here : (k : ℕ) → k < length (octets_at s (places_for sources))
      → (get_or (octets_at s (places_for sources)) k 0 ≡ get_or s (origin_of (places_for sources) k) 0) × (origin_of (places_for sources) k < length s)
  octets-here k l =
      let o = origin-lies s (places_for sources) all_in k l in
      let w = whose sources o.place o.there in
      let inside = (lies_in w.source w.there).1 in
      let same : w.source.place.past ≡ o.place.past = ap (λ (v : Span). v.past) w.its in
      (origin-read s (places_for sources) all_in k l, omega (arith, o.high))

  own_at : (i : ℕ) (x : Source) → get_elem? (sources_in edition side s) i ≡ some x → get_elem? sources i ≡ some x
  own_at i x there = subst (λ (xs : List Source). get_elem? xs i ≡ some x) sources-are there

  pub from-this-stream : FromThisStream edition side s headers elements
  from-this-stream = record {
    all_octets = λ text is-text.
        ap (λ (xs : List Source). octets_at s (places_for xs)) sources-are ∙ sources-read places s 0 ms
        ∙ texts-same (λ u. octets_at s (places u)) text ms (λ m there.
        let i = matches-are side elements m there in unit-reads m i ∙ sym (is-text m.unit i.unit i.unit_there i.joined.of_unit));
    each_line = each_line;
    no_other_line = λ i x there. let c = came x (in-member x sources i (own_at i x there)) in omega (arith, c.high);
    in_stream = λ i x there. lies_in x (in-member x sources i (own_at i x there));
    each_octet = rw sources-are octets-here;
    octet_once = rw sources-are (origin-once s (places_for sources) all_in all-sorted);
    shown_once = λ i j at x y p q a b.
        same_source i j at x y (own_at i x p) (own_at j y q) a b;
    headers_enough = subst (λ (xs : List Source). length xs ≤ headers) (sym sources-are) few;
  }
