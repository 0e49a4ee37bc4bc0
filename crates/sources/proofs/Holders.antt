-- What holds the content of an element has the places of the definition: the holder that was found by its octet is the one that holds the content, so one
-- item is a piece, and the items of a run are the pieces. Then the records of some places, as they are put.
use mathlib.Core.Path.{◌≡◌, refl, ap, sym, ◌∙◌}
use mathlib.Core.Bool.{true, false}
use mathlib.Core.List.{List, [], ◌∷◌, ◌++◌}
use Prim.Native.Nat.{ℕ, zero, suc, ◌*◌, ◌<◌, ◌≤◌}
use native.Mathlib.Omega.{arith}
use borrow.Author.Tests.{lt-ltb, le-ltb}
use borrow.Table.Steps.{cases}
use lib.ListN.{length, get_or, drop}
use lib.Seq.{sets, sets-eq}
use Rattle.headers.specs.Head.{constructed}
use Rattle.octets.specs.Walk.{Items, no_items, item}
use Rattle.runs.specs.Runs.{items_of}
use Rattle.tree.specs.Tree.{Tree, plain}
use Rattle.contents.specs.declared.Span.{Span}
use Rattle.contents.specs.Search.{Value, absent, octets, bounds_of, items_in, no_span}
use Rattle.elements.specs.declared.Edition.{Edition}
use Rattle.elements.specs.Shape.{ContentItem, whole, pieced}
use Rattle.elements.specs.Judge.{none_of, Content, single, in_pieces, content_in, content_of, holders_of}
use Rattle.elements.specs.ElementRows.{holder_in, content_octet, bounds_at, items_at}
use Rattle.elements.specs.Says.{Bounds}
use Rattle.judging.specs.Judges.{shape_by}
use Rattle.letters.specs.declared.Held.{Held}
use Rattle.letters.specs.declared.Held.TheVariants.{Part, Pieces}
use Rattle.letters.specs.Content.{from, HeldAs, HoldsElement}
use Rattle.letters.specs.Letter.{items_of_stream}
use Rattle.sources.specs.Places.{piece_at, places_of}
use Rattle.sources.specs.Sources.{line_sources, source_numbers, place_numbers}
use Rattle.sources.specs.Units.{places_with, places_at, content_places, places_of_each, places_in}
use Rattle.sources.specs.Steps.{held_places, HeldHere}
use Rattle.sources.proofs.Putting.{one-record}
use Rattle.sources.proofs.Units.{Formed, formed-by}

module _ (s : List ℕ) where
  -- nothing holds a content
  none-held : (held : Held) → HeldAs s no_span no_items (single absent) held → held_places s held ≡ []
  none-held (Part first past) h = ap (λ (v : Span). piece_at v.first v.past) (sym h.fields_are)
  none-held (Pieces run) h = let e = h.content_is in let z : ◌≡◌ {A = ℕ} 0 1 = cc in absurd (omega arith)

  module _ (i : Items) (octet : ℕ) (held : Held) where
    -- one item holds it
    whole-held : constructed octet ≡ false → (value : Value) → HeldAs s (bounds_of octet i) (items_in octet i) (single value) held
        → held_places s held ≡ places_with octet i
    unfolding places_with
    whole-held form value h = rw form (by_whole held h)
      where
        by_whole : (x : Held) → HeldAs s (bounds_of octet i) (items_in octet i) (single value) x
            → held_places s x ≡ piece_at (bounds_of octet i).first (bounds_of octet i).past
        by_whole (Part first past) h = ap (λ (v : Span). piece_at v.first v.past) (sym h.fields_are)
        by_whole (Pieces run) h = let e = h.content_is in let z : ◌≡◌ {A = ℕ} 0 1 = cc in absurd (omega arith)

    -- or pieces
    pieces-held : constructed octet ≡ true → (run : Tree) → HeldAs s (bounds_of octet i) (items_in octet i) (in_pieces run) held
        → held_places s held ≡ places_with octet i
    unfolding places_with
    pieces-held form run h = rw form (by-pieces held h)
      where
        by-pieces : (x : Held) → HeldAs s (bounds_of octet i) (items_in octet i) (in_pieces run) x → held_places s x ≡ places_of (items_in octet i)
        by-pieces (Part first past) h = let e = h.content_is in let z : ◌≡◌ {A = ℕ} 0 1 = cc in absurd (omega arith)
        by-pieces (Pieces run) h = ap places_of h.items

  -- the first of some holders that is there
  held-places : (i : Items) (holders : List ContentItem) → Formed holders → (held : Held)
      → (let octet = holder_in holders (plain s i) in HeldAs s (bounds_at octet i) (items_at octet i) (content_in holders (plain s i)) held)
      → held_places s held ≡ places_at (holder_in holders (plain s i)) i
  held-places i [] w held h = none-held held h
  held-places i (whole octet ∷ others) w held h =
      cases (none_of octet (plain s i))
      (λ t. rw t (held-places i others w.1 held (rw t at h)))
      (λ t. rw t (whole-held i octet held w.0 _ (rw t at h)))
  held-places i (pieced octet ∷ others) w held h =
      cases (none_of octet (plain s i))
      (λ t. rw t (held-places i others w.1 held (rw t at h)))
      (λ t. rw t (pieces-held i octet held w.0 _ (rw t at h)))

  -- a pair that bounds a value lies in the stream
  bounded : (pair : Span) (v : Value) → Bounds s pair v → pair.past ≤ length s
  bounded pair absent b = rw b (omega arith)
  bounded pair (octets bytes) b = b.placed.inside

  held-here : (fields : Span) (inside : Items) (content : Content) (held : Held) → HeldAs s fields inside content held → HeldHere s held
  held-here fields inside content (Part first past) h =
      let same : fields.past ≡ past = ap (λ (v : Span). v.past) h.fields_are in omega (arith, bounded fields h.value h.bounds)
  held-here fields inside content (Pieces run) h = h.fine

-- the places of element j are those of the content of item j
item-places : (edition : Edition) (s : List ℕ) (i : Items) (j : ℕ) (at code first past : ℕ) (inside after : Items)
    → from j i ≡ item at code first past inside after
    → get_or (places_of_each edition s i) j [] ≡ content_places (shape_by edition code).contents s inside
unfolding places_of_each
item-places edition s no_items zero at code first past inside after e = let z : ◌≡◌ {A = ℕ} 0 1 = cc in absurd (omega arith)
item-places edition s no_items (suc j) at code first past inside after e = let z : ◌≡◌ {A = ℕ} 0 1 = cc in absurd (omega arith)
item-places edition s (item a c f p i t) zero at code first past inside after e = ap (λ (x : Items). get_or (places_of_each edition s x) 0 []) e
item-places edition s (item a c f p i t) (suc j) at code first past inside after e = item-places edition s t j at code first past inside after e

-- and what holds it has them
module _ {edition : Edition} {s : List ℕ} {j : ℕ} {held : Held} (h : HoldsElement edition s j held) where
  pub unit-places : held_places s held ≡ places_in edition s j
  unfolding places_in content_places content_octet content_of
  unit-places =
      let at = h.at in
      let contents = (shape_by edition h.placed.code).contents in
      held-places s (items_of s h.placed.inner) (holders_of contents) (formed-by contents) held h.holds
      ∙ sym (item-places edition s (items_of_stream s) j _ _ at.first at.past _ at.after at.stands)

  pub unit-here : HeldHere s held
  unit-here = held-here s _ _ _ held h.holds

-- one piece
pub one_place : (first past : ℕ) → first < past → piece_at first past ≡ record { first = first; past = past } ∷ []
one_place first past l = rw (lt-ltb first past l)

pub no_place : (first past : ℕ) → past ≤ first → piece_at first past ≡ []
no_place first past l = rw (le-ltb first past l)

-- the records of some places are put at the start of a list
abbrev pub Puts : (line : ℕ) → List Span → (list : List ℕ) → (n : ℕ) → (after : List ℕ) → Type 0
Puts line ps list n after = (n ≡ 3 * length ps) × (after ≡ place_numbers line ps ++ drop n list)

pub puts-same : (line n : ℕ) (ps qs : List Span) (list after : List ℕ) → ps ≡ qs → Puts line qs list n after → Puts line ps list n after
puts-same line n ps qs list after e p = rw e p

pub puts_one : (line first past : ℕ) (list after : List ℕ) → 3 ≤ length list → after ≡ sets list 0 (line ∷ first ∷ past ∷ [])
    → Puts line (record { first = first; past = past } ∷ []) list 3 after
puts_one line first past list after l e =
    (refl, e ∙ sets-eq (line ∷ first ∷ past ∷ []) list 0 (omega arith) ∙ rw (one-record line first past))

pub puts_none : (line : ℕ) (list : List ℕ) → Puts line [] list 0 list
unfolding source_numbers line_sources
puts_none line list = (refl, refl)
