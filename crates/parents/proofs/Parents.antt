-- The parent of a row is the one row that carries its shorter identifier, and none is missed. Of any accepted letter.
use mathlib.Core.Path.{◌≡◌, refl, ap, sym, ◌∙◌}
use mathlib.Core.Bool.{true, false, ◌&&◌, false≢true, and-eq-true_iff}
use mathlib.Core.List.{List}
use mathlib.Core.Option.{Option, none, some}
use Prim.Native.Nat.{ℕ, ◌≤◌}
use native.Mathlib.Omega.{arith}
use lib.Dec.{eqb, leb}
use lib.ListN.{length, get_elem?}
use borrow.Author.Tests.{leb-true, eqb-true}
use borrow.Table.Steps.{cases}
use Rattle.headers.specs.Head.{is_in}
use Rattle.names.specs.Names.{longest_identifier, grouped, is_identifier}
use Rattle.contents.specs.Search.{Value, absent, octets}
use Rattle.portions.specs.Portions.{well_spelt}
use Rattle.elements.specs.Judge.{Element, spelt, names_fit}
use Rattle.letters.specs.Apart.{Apart}
use Rattle.reading.specs.declared.Side.{Side}
use Rattle.reading.specs.declared.Side.TheVariants.{Layout, Logical}
use Rattle.reading.specs.Match.{kinds_of}
use Rattle.reading.proofs.Single.{side-space}
use Rattle.parents.specs.Parent.{shorter, shorter_of, parent_kinds, is_parent_of, parent_of, parent, IsParent}
use Rattle.parents.proofs.Shorter.{shorter-at, group-off, digits-whole}
use Rattle.parents.proofs.Firsts.{first_one, first-told}
use Rattle.parents.proofs.Finding.{carries-told, told-carries, one-carrier}

-- an identifier that is well spelt: in groups, and 64 bytes at most
pub named-groups : (e : Element) → names_fit e ≡ true → (bytes : List ℕ) → e.identifier ≡ octets bytes
    → (grouped false bytes ≡ true) × (length bytes ≤ longest_identifier)
unfolding names_fit is_identifier
named-groups e fits bytes named =
    let a = (and-eq-true_iff (spelt e.identifier) (spelt e.logical && (well_spelt e.portions && true))).0 fits in
    let b : is_identifier bytes ≡ true = rw named at a.0 in
    let d = (and-eq-true_iff (leb (length bytes) longest_identifier) (grouped false bytes)).0 b in
    (d.1, leb-true (length bytes) longest_identifier d.0)

-- no kind is of both sides
two-sides : (kind : ℕ) → is_in kind (kinds_of Layout) ≡ true → is_in kind (kinds_of Logical) ≡ true → ⊥
two-sides kind e f =
    cases (eqb kind 1)
    (λ t. let k : kind ≡ 1 = eqb-true kind 1 t in false≢true (rw k at f))
    (λ t.
    cases (eqb kind 2)
    (λ u. let k : kind ≡ 2 = eqb-true kind 2 u in false≢true (rw k at f))
    (λ u. false≢true (rw (t, u) at e)))

-- the kinds of a side are those of its parents
side-kinds : (side : Side) (kind : ℕ) → is_in kind (kinds_of side) ≡ true → parent_kinds kind ≡ kinds_of side
unfolding parent_kinds
side-kinds Layout kind e = rw e
side-kinds Logical kind e = cases (is_in kind (kinds_of Layout)) (λ t. absurd (two-sides kind t e)) (λ t. rw (t, e))

-- an identifier that has a shorter one
record Named (v : Value) (front : List ℕ) : Type 0 where
  whole : List ℕ
  named : v ≡ octets whole
  shortened : shorter whole ≡ octets front

named-of : (v : Value) (front : List ℕ) → shorter_of v ≡ octets front → Named v front
named-of absent front e = let z : ◌≡◌ {A = ℕ} 0 1 = cc in absurd (omega arith)
named-of (octets whole) front e = record { whole = whole; named = refl; shortened = e }

module _ (elements : List Element) (apart : Apart elements) (j p : ℕ) where
  of-child : (o : Option Element) → get_elem? elements j ≡ o → parent_of elements o ≡ some p → IsParent elements j p
  of-child none there e = let z : ◌≡◌ {A = ℕ} 0 1 = cc in absurd (omega arith)
  of-child (some child) there e =
      let w = first-told (is_parent_of child) elements p e in
      let c = carries-told child w.element w.passes in
      let n = named-of child.identifier c.bytes c.shortened in
      let off = group-off false n.whole c.bytes (named-groups child (apart.spelt j child there) n.whole n.named).0 n.shortened in
      record {
        child = child;
        parent = w.element;
        child_there = there;
        parent_there = w.there;
        side = c.sides.side;
        child_on_side = c.sides.on;
        parent_on_side = c.sides.other_on;
        shorter = c.bytes;
        digits = off.digits;
        child_named = n.named ∙ ap octets off.spelt;
        only_digits = off.only_digits;
        some_digits = off.some_digits;
        parent_named = c.named;
      }

  -- the parent carries exactly the shorter identifier,
  pub parent_is : parent elements j ≡ some p → IsParent elements j p
  unfolding parent
  parent_is e = of-child (get_elem? elements j) refl e

  -- and none is missed
  pub none-missed : IsParent elements j p → parent elements j ≡ some p
  unfolding parent
  none-missed i =
      let child = i.child in
      let there = i.child_there in
      let shortened : shorter_of child.identifier ≡ octets i.shorter =
      ap shorter_of i.child_named ∙ shorter-at i.shorter i.digits (digits-whole i.digits i.only_digits) in
      let kinds : is_in i.parent.kind (parent_kinds child.kind) ≡ true =
      ap (is_in i.parent.kind) (side-kinds i.side child.kind i.child_on_side) ∙ i.parent_on_side in
      let found = first_one (is_parent_of child) elements p i.parent i.parent_there
      (told-carries child i.parent i.shorter kinds shortened i.parent_named)
      (λ k y at t.
      let c = carries-told child y t in
      let f : octets c.bytes ≡ octets i.shorter = sym c.shortened ∙ shortened in
      one-carrier elements apart k p y i.parent i.shorter at i.parent_there (side-space c.sides.side y.kind c.sides.other_on)
      (side-space i.side i.parent.kind i.parent_on_side) (c.named ∙ f) i.parent_named) in
      rw there found
