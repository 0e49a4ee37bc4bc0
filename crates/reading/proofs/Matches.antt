-- The reading list holds a record exactly when it is a match, in stream order and then portion order, and so none twice: it is listed for
-- each element, each of its portions and each unit in their order. Of any elements.
use mathlib.Core.Path.{◌≡◌, refl, ap, sym, ◌∙◌}
use mathlib.Core.Logic.{inl, inr}
use mathlib.Core.Bool.{true, ◌&&◌, false≢true, and-eq-true_iff}
use mathlib.Core.List.{List, ◌∷◌, ◌++◌, Memᴰ}
use Prim.Native.Nat.{ℕ, ◌+◌}
use native.Mathlib.Omega.{arith}
use lib.Dec.{eqb}
use lib.ListN.{get_elem?}
use borrow.Author.Tests.{eqb-true, eq-eqb}
use Rattle.headers.specs.Head.{is_in}
use Rattle.names.specs.Names.{space_byte}
use Rattle.names.proofs.Same.{same-eq, same_refl}
use Rattle.contents.specs.Search.{Value, absent, octets}
use Rattle.elements.specs.Judge.{Element}
use Rattle.reading.specs.declared.Match.{Match}
use Rattle.reading.specs.declared.Side.{Side}
use Rattle.reading.specs.Match.{unit_kind, kinds_of, name_on, spells, joins, only, portion_matches, element_matches, matches, Joined, IsMatch, Before}
use Rattle.reading.specs.Lists.{Sorted, Once}
use Rattle.reading.proofs.Lists.{sorted-once}
use Rattle.reading.proofs.Each.{only-in, only_out, only-sorted, each-out, each_in, each-sorted}

-- the test of the definition is what it is to be joined
record Spelt (whole identifier : Value) (portion : List ℕ) : Type 0 where
  bytes : List ℕ
  named : identifier ≡ octets bytes
  spelt : whole ≡ octets (bytes ++ space_byte ∷ portion)

spells-told : (whole identifier : Value) (portion : List ℕ) → spells whole identifier portion ≡ true → Spelt whole identifier portion
spells-told absent identifier portion e = absurd (false≢true e)
spells-told (octets whole) absent portion e = absurd (false≢true e)
spells-told (octets whole) (octets identifier) portion e =
    let p : identifier ++ space_byte ∷ portion ≡ whole = same-eq (identifier ++ space_byte ∷ portion) whole e in
    record { bytes = identifier; named = refl; spelt = ap octets (sym p) }

module _ (side : Side) (element : Element) (portion : List ℕ) (unit : Element) where
  pub joins-told : joins side element portion unit ≡ true → Joined side element portion unit
  unfolding joins
  joins-told e =
      let p = (and-eq-true_iff (is_in element.kind (kinds_of side)
      && eqb unit.kind unit_kind) (spells (name_on side unit) element.identifier portion)).0 e in
      let q = (and-eq-true_iff (is_in element.kind (kinds_of side)) (eqb unit.kind unit_kind)).0 p.0 in
      let w = spells-told (name_on side unit) element.identifier portion p.1 in
      record { on_side = q.0; of_unit = eqb-true unit.kind unit_kind q.1; identifier = w.bytes; named = w.named; spelt = w.spelt }

  pub joined-joins : Joined side element portion unit → joins side element portion unit ≡ true
  unfolding joins
  joined-joins j = rw (j.on_side, eq-eqb _ _ j.of_unit, j.spelt, j.named) (same_refl (j.identifier ++ space_byte ∷ portion))

module _ (side : Side) (elements : List Element) where
  abbrev with_unit : (e p : ℕ) → Element → List ℕ → ℕ → Element → List Match
  with_unit e p element portion u unit = only (joins side element portion unit) (record { element = e; portion = p; unit = u })

  abbrev made : (e p u : ℕ) → Match
  made e p u = record { element = e; portion = p; unit = u }

  -- a match of a portion has its element's number and its own place; a match of an element has that element's number
  of-portion : (e p : ℕ) (element : Element) (portion : List ℕ) (m : Match) → Memᴰ m (portion_matches side elements e element p portion)
      → (m.element ≡ e) × (m.portion ≡ p)
  unfolding portion_matches
  of-portion e p element portion m i =
      let o = each-out (with_unit e p element portion) 0 elements m i in
      let f = (only_out (joins side element portion o.here) (made e p (0 + o.place)) m o.from).1 in
      (ap (λ (k : Match). k.element) f, ap (λ (k : Match). k.portion) f)

  of-element : (e : ℕ) (element : Element) (m : Match) → Memᴰ m (element_matches side elements e element) → m.element ≡ e
  unfolding element_matches
  of-element e element m i =
      let o = each-out (portion_matches side elements e element) 0 element.portions m i in
      (of-portion e (0 + o.place) element o.here m o.from).0

  -- a record of the list is a match,
  pub matches-are : (m : Match) → Memᴰ m (matches side elements) → IsMatch side elements m
  unfolding matches element_matches portion_matches
  matches-are m i =
      let a = each-out (element_matches side elements) 0 elements m i in
      let b = each-out (portion_matches side elements (0 + a.place) a.here) 0 a.here.portions m a.from in
      let d = each-out (with_unit (0 + a.place) (0 + b.place) a.here b.here) 0 elements m b.from in
      let o = only_out (joins side a.here b.here d.here) (made (0 + a.place) (0 + b.place) (0 + d.place)) m d.from in
      let p : m.element ≡ a.place = ap (λ (k : Match). k.element) o.1 ∙ omega arith in
      let q : m.portion ≡ b.place = ap (λ (k : Match). k.portion) o.1 ∙ omega arith in
      let r : m.unit ≡ d.place = ap (λ (k : Match). k.unit) o.1 ∙ omega arith in
      record {
        element = a.here;
        portion = b.here;
        unit = d.here;
        element_there = ap (get_elem? elements) p ∙ a.at;
        portion_there = ap (get_elem? a.here.portions) q ∙ b.at;
        unit_there = ap (get_elem? elements) r ∙ d.at;
        joined = joins-told side a.here b.here d.here o.0;
      }

  -- and a match is in the list
  pub matches-all : (m : Match) → IsMatch side elements m → Memᴰ m (matches side elements)
  unfolding matches element_matches portion_matches
  matches-all m i =
      let p : 0 + m.element ≡ m.element = omega arith in
      let q : 0 + m.portion ≡ m.portion = omega arith in
      let r : 0 + m.unit ≡ m.unit = omega arith in
      let joined = joined-joins side i.element i.portion i.unit i.joined in
      each_in (element_matches side elements) 0 elements m m.element i.element i.element_there
      (each_in (portion_matches side elements (0 + m.element) i.element) 0 i.element.portions m m.portion i.portion i.portion_there
      (each_in (with_unit (0 + m.element) (0 + m.portion) i.element i.portion) 0 elements m m.unit i.unit i.unit_there
      (rw (p, q, r) (only-in (joins side i.element i.portion i.unit) m joined))))

  -- the matches of a portion are in the order of their units, those of an element in that of its portions, all in that of the elements
  portion-sorted : (e : ℕ) (element : Element) (p : ℕ) (portion : List ℕ) → Sorted Before (portion_matches side elements e element p portion)
  unfolding portion_matches
  portion-sorted e element p portion =
      each-sorted (with_unit e p element portion) Before (λ u unit. only-sorted Before (joins side element portion unit) (made e p u))
      (λ u v x y m n l a b.
      let f = (only_out (joins side element portion x) (made e p u) m a).1 in
      let g = (only_out (joins side element portion y) (made e p v) n b).1 in
      rw (f, g) (inr (refl, inr (refl, l))))
      0 elements

  element-sorted : (e : ℕ) (element : Element) → Sorted Before (element_matches side elements e element)
  unfolding element_matches
  element-sorted e element =
      each-sorted (portion_matches side elements e element) Before (portion-sorted e element)
      (λ p q x y m n l a b.
      let f = of-portion e p element x m a in
      let g = of-portion e q element y n b in
      inr (f.0 ∙ sym g.0, inl (omega arith)))
      0 element.portions

  pub matches-sorted : Sorted Before (matches side elements)
  unfolding matches
  matches-sorted =
      each-sorted (element_matches side elements) Before element-sorted
      (λ d e x y m n l a b. let f = of-element d x m a in let g = of-element e y n b in inl (omega arith))
      0 elements

  before-itself : (m : Match) → Before m m → ⊥
  before-itself m (inl l) = omega arith
  before-itself m (inr (e, inl l)) = omega arith
  before-itself m (inr (e, inr (f, l))) = omega arith

  -- no record stands twice
  pub matches-once : Once (matches side elements)
  matches-once = sorted-once Before before-itself (matches side elements) matches-sorted
