-- Each octet that stands at some places is an octet of the stream, at its origin; and where no two places share an octet, no two octets have one origin.
--
use mathlib.Core.Path.{◌≡◌, refl, ap, sym, ◌∙◌}
use mathlib.Core.List.{List, [], ◌∷◌, ◌++◌, Memᴰ}
use mathlib.Core.Logic.{◌⊎◌, inl, inr}
use Prim.Native.Nat.{ℕ, ◌+◌, ◌-◌, ◌<◌, ◌≤◌}
use native.Mathlib.Omega.{arith}
use borrow.Author.Tests.{ltb-true, ltb-false}
use borrow.Table.Steps.{cases}
use lib.Dec.{ltb}
use lib.ListN.{length, get_or, take, length-append, get_or-append}
use lib.Seq.{slice, length-slice, get_or-take, get_or-drop, get_or-append-add}
use Rattle.contents.specs.declared.Span.{Span}
use Rattle.reading.specs.Lists.{Sorted}
use Rattle.sources.specs.Places.{octets_at, origin_of}

-- each place has an octet and lies in the stream
abbrev pub InStream : (s : List ℕ) → List Span → Type 0
InStream s [] = Unit {0}
InStream s (p ∷ ps) = (p.first < p.past) × (p.past ≤ length s) × InStream s ps

abbrev pub PlacesApart : Span → Span → Type 0
PlacesApart p q = (p.past ≤ q.first) ⊎ (q.past ≤ p.first)

-- an origin lies in one of the places
pub record LiesIn (ps : List Span) (at : ℕ) : Type 0 where
  pub place : Span
  pub there : Memᴰ place ps
  pub low : place.first ≤ at
  pub high : at < place.past

module _ (s : List ℕ) where
  cons-length : (p : Span) (ps : List Span) → InStream s (p ∷ ps) → length (octets_at s (p ∷ ps)) ≡ (p.past - p.first) + length (octets_at s ps)
  unfolding octets_at
  cons-length p ps w =
      length-append (slice p.first p.past s) (octets_at s ps) ∙ ap (λ (n : ℕ). n + length (octets_at s ps)) (length-slice p.first p.past s w.1)

  -- the octet k
  pub origin-read : (ps : List Span) → InStream s ps → (k : ℕ) → k < length (octets_at s ps) → get_or (octets_at s ps) k 0 ≡ get_or s (origin_of ps k) 0
  unfolding octets_at origin_of
  origin-read [] w k l = absurd (omega arith)
  origin-read (p ∷ ps) w k l =
      let size = p.past - p.first in
      let own = slice p.first p.past s in
      let long = length-slice p.first p.past s w.1 in
      let all = cons-length p ps w in
      cases (ltb k size)
      (λ t.
      let in-first : k < length own = omega (arith, ltb-true k size t) in
      let before : p.first + k < p.past = omega (arith, ltb-true k size t) in
      rw t
      (get_or-append own (octets_at s ps) 0 k in-first ∙ get_or-drop p.first (take p.past s) k 0 ∙ get_or-take p.past s (p.first + k) 0 before))
      (λ t.
      let past : size ≤ k = ltb-false k size t in
      let split : k ≡ length own + (k - size) = omega (arith, long) in
      let more : k - size < length (octets_at s ps) = omega arith in
      rw t
      (ap (λ (j : ℕ). get_or (own ++ octets_at s ps) j 0) split ∙ get_or-append-add own (octets_at s ps) (k - size) 0 ∙ origin-read ps w.2 (k - size) more))

  pub origin-lies : (ps : List Span) → InStream s ps → (k : ℕ) → k < length (octets_at s ps) → LiesIn ps (origin_of ps k)
  unfolding octets_at origin_of
  origin-lies [] w k l = absurd (omega arith)
  origin-lies (p ∷ ps) w k l =
      let size = p.past - p.first in
      let all = cons-length p ps w in
      cases (ltb k size)
      (λ t. rw t (record { place = p; there = Memᴰ.head refl; low = omega arith; high = omega (arith, ltb-true k size t) }))
      (λ t.
      let past : size ≤ k = ltb-false k size t in
      let more : k - size < length (octets_at s ps) = omega arith in
      let o = origin-lies ps w.2 (k - size) more in
      rw t (record { place = o.place; there = Memᴰ.tail o.there; low = o.low; high = o.high }))

  outside : (p q : Span) (at : ℕ) → p.first ≤ at → at < p.past → q.first ≤ at → at < q.past → PlacesApart p q → ⊥
  outside p q at a b c d (inl o) = omega arith
  outside p q at a b c d (inr o) = omega arith

  -- one octet in the first place, another in a later one
  not_both : (p : Span) (ps : List Span) → InStream s (p ∷ ps) → Sorted PlacesApart (p ∷ ps) → (j k : ℕ) → j < p.past - p.first → k < length (octets_at s ps)
      → p.first + j ≡ origin_of ps k → ⊥
  not_both p ps w apart j k l m e =
      let o = origin-lies ps w.2 k m in
      outside p o.place (origin_of ps k) (omega arith) (omega arith) o.low o.high (apart.0 o.place o.there)

  -- no two have one origin
  pub origin-once : (ps : List Span) → InStream s ps → Sorted PlacesApart ps → (j k : ℕ) → j < length (octets_at s ps) → k < length (octets_at s ps)
      → origin_of ps j ≡ origin_of ps k → j ≡ k
  unfolding octets_at origin_of
  origin-once [] w apart j k l m e = absurd (omega arith)
  origin-once (p ∷ ps) w apart j k l m e =
      let size = p.past - p.first in
      let all = cons-length p ps w in
      cases (ltb j size)
      (λ t. cases (ltb k size)
      (λ u. let f : p.first + j ≡ p.first + k = rw (t, u) at e in omega arith)
      (λ u.
      let f : p.first + j ≡ origin_of ps (k - size) = rw (t, u) at e in
      let past : size ≤ k = ltb-false k size u in
      absurd (not_both p ps w apart j (k - size) (ltb-true j size t) (omega arith) f)))
      (λ t.
      let past : size ≤ j = ltb-false j size t in
      cases (ltb k size)
      (λ u.
      let f : origin_of ps (j - size) ≡ p.first + k = rw (t, u) at e in
      absurd (not_both p ps w apart k (j - size) (ltb-true k size u) (omega arith) (sym f)))
      (λ u.
      let f : origin_of ps (j - size) ≡ origin_of ps (k - size) = rw (t, u) at e in
      let past-too : size ≤ k = ltb-false k size u in
      let same = origin-once ps w.2 apart.1 (j - size) (k - size) (omega arith) (omega arith) f in
      omega arith))
