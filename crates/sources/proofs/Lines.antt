-- The sources of the lines of some matches, whatever the places of each unit are: their places line by line, where each comes from, and that no two share an
-- octet where no two places do.
use mathlib.Core.Path.{◌≡◌, refl, ap, sym, ◌∙◌, subst}
use mathlib.Core.List.Memᴰ
use mathlib.Core.List.{List, [], ◌∷◌, ◌++◌, map, Memᴰ}
use mathlib.Core.List.{append-nil}
use mathlib.Core.Logic.{◌⊎◌, inl, inr}
use mathlib.Core.Option.{some}
use Prim.Native.Nat.{ℕ, zero, suc, ◌+◌, ◌<◌, ◌≤◌}
use native.Mathlib.Omega.{arith}
use borrow.Author.Tests.{eq-eqb, ne_eqb}
use borrow.Table.Steps.{cases}
use lib.Dec.{eqb}
use lib.ListN.{length, get_elem?}
use Rattle.contents.specs.declared.Span.{Span}
use Rattle.reading.specs.declared.Match.{Match}
use Rattle.reading.specs.Lists.{Sorted, Once}
use Rattle.reading.proofs.Lists.{sorted-append}
use Rattle.text_lines.specs.Text.{TextOf, texts_of}
use Rattle.sources.specs.Places.{octets_at, Ascend}
use Rattle.sources.specs.Sources.{Source, line_sources, sources_from, places_for, places_from}
use Rattle.sources.proofs.Places.{octets-append}
use Rattle.sources.proofs.Origins.{InStream, PlacesApart}
use Rattle.sources.proofs.Among.{lies}

-- the places of sources, and of one line
for-append : (xs ys : List Source) → places_for (xs ++ ys) ≡ places_for xs ++ places_for ys
unfolding places_for
for-append [] ys = refl
for-append (x ∷ xs) ys = ap (λ (z : List Span). x.place ∷ z) (for-append xs ys)

for-line : (k : ℕ) (ps : List Span) → places_for (line_sources k ps) ≡ ps
unfolding places_for line_sources
for-line k [] = refl
for-line k (p ∷ ps) = ap (λ (z : List Span). p ∷ z) (for-line k ps)

from-append : (j : ℕ) (xs ys : List Source) → places_from j (xs ++ ys) ≡ places_from j xs ++ places_from j ys
unfolding places_from
from-append j [] ys = refl
from-append j (x ∷ xs) ys = let more = from-append j xs ys in cases (eqb x.line j) (λ t. rw (t, more)) (λ t. rw (t, more))

from-own : (k : ℕ) (ps : List Span) → places_from k (line_sources k ps) ≡ ps
unfolding places_from line_sources
from-own k [] = refl
from-own k (p ∷ ps) = let t = eq-eqb k k refl in rw t (ap (λ (z : List Span). p ∷ z) (from-own k ps))

from-other : (j k : ℕ) → (k ≡ j → ⊥) → (ps : List Span) → places_from j (line_sources k ps) ≡ []
unfolding places_from line_sources
from-other j k d [] = refl
from-other j k d (p ∷ ps) = let t = ne_eqb k j d in rw t (from-other j k d ps)

-- where a source comes from: a match, and a place of its unit
pub record Comes (places : ℕ → List Span) (line : ℕ) (ms : List Match) (x : Source) : Type 0 where
  pub match : Match
  pub there : Memᴰ match ms
  pub place_there : Memᴰ x.place (places match.unit)
  pub low : line ≤ x.line
  pub high : x.line < line + length ms

place-either : (p : Span) (k : ℕ) (ps : List Span) (x : Source) → (Memᴰ x (line_sources k ps) → Memᴰ x.place ps × (x.line ≡ k))
    → (x ≡ record { line = k; place = p }) ⊎ Memᴰ x (line_sources k ps) → Memᴰ x.place (p ∷ ps) × (x.line ≡ k)
place-either p k ps x below (inl e) = (Memᴰ.head (ap (λ (y : Source). y.place) e), ap (λ (y : Source). y.line) e)
place-either p k ps x below (inr m) = let b = below m in (Memᴰ.tail b.0, b.1)

line-place : (k : ℕ) (ps : List Span) (x : Source) → Memᴰ x (line_sources k ps) → Memᴰ x.place ps × (x.line ≡ k)
unfolding line_sources
line-place k [] x m = absurd (Memᴰ.not-nil m)
line-place k (p ∷ ps) x m = place-either p k ps x (line-place k ps x) (Memᴰ.cases_cons m)

module _ (places : ℕ → List Span) where
  -- all octets
  pub sources-read : (s : List ℕ) (k : ℕ) (ms : List Match) → octets_at s (places_for (sources_from places k ms)) ≡ texts_of (λ u. octets_at s (places u)) ms
  unfolding sources_from places_for octets_at texts_of
  sources-read s k [] = refl
  sources-read s k (m ∷ ms) =
      let more = places_for (sources_from places (suc k) ms) in
      ap (octets_at s)
      (for-append (line_sources k (places m.unit)) (sources_from places (suc k) ms) ∙ ap (λ (z : List Span). z ++ more) (for-line k (places m.unit)))
      ∙ octets-append s (places m.unit) (places_for (sources_from places (suc k) ms))
      ∙ ap (λ (z : List ℕ). octets_at s (places m.unit) ++ z) (sources-read s (suc k) ms)

  -- line by line
  earlier-line : (j k : ℕ) → j < k → (ms : List Match) → places_from j (sources_from places k ms) ≡ []
  unfolding sources_from places_from
  earlier-line j k l [] = refl
  earlier-line j k l (m ∷ ms) =
      from-append j (line_sources k (places m.unit)) (sources_from places (suc k) ms)
      ∙ rw (from-other j k (λ e. omega arith) (places m.unit), earlier-line j (suc k) (omega arith) ms)

  pub line-places : (k : ℕ) (ms : List Match) (i : ℕ) (m : Match) → get_elem? ms i ≡ some m → places_from (k + i) (sources_from places k ms) ≡ places m.unit
  unfolding sources_from
  line-places k [] i m e = let z : ◌≡◌ {A = ℕ} 0 1 = cc in absurd (omega arith)
  line-places k (n ∷ ms) zero m e =
      let own : n ≡ m = cc in
      let z : k + 0 ≡ k = omega arith in
      rw z
      (from-append k (line_sources k (places n.unit)) (sources_from places (suc k) ms)
      ∙ rw (from-own k (places n.unit), earlier-line k (suc k) (omega arith) ms)
      (append-nil (places n.unit) ∙ ap (λ (x : Match). places x.unit) own))
  line-places k (n ∷ ms) (suc i) m e =
      let z : k + suc i ≡ suc k + i = omega arith in
      rw z
      (from-append (suc k + i) (line_sources k (places n.unit)) (sources_from places (suc k) ms)
      ∙ rw (from-other (suc k + i) k (λ f. omega arith) (places n.unit)) (line-places (suc k) ms i m e))

  comes-either : (k : ℕ) (n : Match) (ms : List Match) (x : Source) → (Memᴰ x (sources_from places (suc k) ms) → Comes places (suc k) ms x)
      → Memᴰ x (line_sources k (places n.unit)) ⊎ Memᴰ x (sources_from places (suc k) ms) → Comes places k (n ∷ ms) x
  comes-either k n ms x below (inl m) =
      let (there, line) = line-place k (places n.unit) x m in
      record { match = n; there = Memᴰ.head refl; place_there = there; low = omega arith; high = omega arith }
  comes-either k n ms x below (inr m) =
      let c = below m in
      record { match = c.match; there = Memᴰ.tail c.there; place_there = c.place_there; low = omega (arith, c.low); high = omega (arith, c.high) }

  pub comes : (k : ℕ) (ms : List Match) (x : Source) → Memᴰ x (sources_from places k ms) → Comes places k ms x
  unfolding sources_from
  comes k [] x m = absurd (Memᴰ.not-nil m)
  comes k (n ∷ ms) x m =
      comes-either k n ms x (comes (suc k) ms x) (Memᴰ.append_cases (line_sources k (places n.unit)) m)

  -- no two share an octet, if no two places do
  abbrev pub Apart : Span → Span → Type 0
  Apart p q = (p.past ≤ q.first) ⊎ (q.past ≤ p.first)

  abbrev pub SourcesApart : Source → Source → Type 0
  SourcesApart x y = Apart x.place y.place

  line-apart : (from to k : ℕ) (ps : List Span) → Ascend from to ps → Sorted SourcesApart (line_sources k ps)
  unfolding line_sources
  line-apart from to k [] a = tt
  line-apart from to k (p ∷ ps) a =
      (λ y m. inl (lies p.past to ps a.2 y.place (line-place k ps y m).0).low, line-apart p.past to k ps a.2)

  module _ (to : ℕ) (ascend : (u : ℕ) → Ascend 0 to (places u))
      (apart : (u v : ℕ) → (u ≡ v → ⊥) → (p q : Span) → Memᴰ p (places u) → Memᴰ q (places v) → Apart p q) where
    pub sources-apart : (k : ℕ) (ms : List Match) → Once (map (λ (m : Match). m.unit) ms) → Sorted SourcesApart (sources_from places k ms)
    unfolding sources_from
    sources-apart k [] o = tt
    sources-apart k (m ∷ ms) o =
        sorted-append SourcesApart (line_sources k (places m.unit)) (sources_from places (suc k) ms) (line-apart 0 to k (places m.unit) (ascend m.unit))
        (sources-apart (suc k) ms o.1)
        (λ x y i j.
        let c = comes (suc k) ms y j in
        apart m.unit c.match.unit (λ e. o.0 (unit_mem e c.there)) x.place y.place (line-place k (places m.unit) x i).0 c.place_there)
      where
        unit_mem : {n : Match} → m.unit ≡ n.unit → Memᴰ n ms → Memᴰ m.unit (map (λ (x : Match). x.unit) ms)
        unit_mem e i = subst (λ (u : ℕ). Memᴰ u (map (λ (x : Match). x.unit) ms)) (sym e) (Memᴰ.map (λ (x : Match). x.unit) i)

-- the texts of matches are the same where those of their units are
pub texts-same : (f g : TextOf) (ms : List Match) → ((m : Match) → Memᴰ m ms → f m.unit ≡ g m.unit) → texts_of f ms ≡ texts_of g ms
unfolding texts_of
texts-same f g [] same = refl
texts-same f g (m ∷ ms) same = rw (same m (Memᴰ.head refl), texts-same f g ms (λ n i. same n (Memᴰ.tail i)))

-- places of sources that are apart, and not empty, are all different
pub for-length : (xs : List Source) → length (places_for xs) ≡ length xs
unfolding places_for
for-length [] = refl
for-length (x ∷ xs) = ap suc (for-length xs)

pub record Whose (xs : List Source) (p : Span) : Type 0 where
  pub source : Source
  pub there : Memᴰ source xs
  pub its : source.place ≡ p

whose-either : (x : Source) (xs : List Source) (p : Span) → (Memᴰ p (places_for xs) → Whose xs p)
    → (p ≡ x.place) ⊎ Memᴰ p (places_for xs) → Whose (x ∷ xs) p
whose-either x xs p below (inl e) = record { source = x; there = Memᴰ.head refl; its = sym e }
whose-either x xs p below (inr m) = let w = below m in record { source = w.source; there = Memᴰ.tail w.there; its = w.its }

pub whose : (xs : List Source) (p : Span) → Memᴰ p (places_for xs) → Whose xs p
unfolding places_for
whose [] p m = absurd (Memᴰ.not-nil m)
whose (x ∷ xs) p m = whose-either x xs p (whose xs p) (Memᴰ.cases_cons m)

not_itself : (p q : Span) → q ≡ p → p.first < p.past → (p.past ≤ q.first) ⊎ (q.past ≤ p.first) → ⊥
not_itself p q e l (inl a) = let f : q.first ≡ p.first = ap (λ (v : Span). v.first) e in omega arith
not_itself p q e l (inr a) = let f : q.past ≡ p.past = ap (λ (v : Span). v.past) e in omega arith

pub for-once : (xs : List Source) → Sorted (λ x y. (x.place.past ≤ y.place.first) ⊎ (y.place.past ≤ x.place.first)) xs
    → ((x : Source) → Memᴰ x xs → x.place.first < x.place.past) → Once (places_for xs)
unfolding places_for
for-once [] w some_octet = tt
for-once (x ∷ xs) w some_octet = (
  λ m. let y = whose xs x.place m in not_itself x.place y.source.place y.its (some_octet x (Memᴰ.head refl)) (w.0 y.source y.there),
  for-once xs w.1 (λ y m. some_octet y (Memᴰ.tail m)),
)

-- what is known of sources is known of their places
pub for-in : (s : List ℕ) (xs : List Source)
    → ((x : Source) → Memᴰ x xs → (x.place.first < x.place.past) × (x.place.past ≤ length s)) → InStream s (places_for xs)
unfolding places_for
for-in s [] w = tt
for-in s (x ∷ xs) w = let own = w x (Memᴰ.head refl) in (own.0, own.1, for-in s xs (λ y m. w y (Memᴰ.tail m)))

pub for-sorted : (xs : List Source) → Sorted (λ x y. PlacesApart x.place y.place) xs → Sorted PlacesApart (places_for xs)
unfolding places_for
for-sorted [] w = tt
for-sorted (x ∷ xs) w =
    (λ q m. let y = whose xs q m in subst (PlacesApart x.place) y.its (w.0 y.source y.there), for-sorted xs w.1)
