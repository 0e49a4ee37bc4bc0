-- What the look-up of the shorter identifier yields is the parent: a row has it exactly when its element carries it, and no two classes or objects
-- share an identifier.
use Rattle.std.specs.Prelude.{Option, Some, None}
use mathlib.Core.Path.{◌≡◌, refl, ap, sym, ◌∙◌}
use mathlib.Core.Bool.{true, false, false≢true, true≢false, and-eq-true_iff}
use mathlib.Core.List.{List}
use mathlib.Core.Option.{none, some}
use Prim.Native.Nat.{ℕ, ◌<◌, ◌≤◌}
use native.Mathlib.Omega.{arith}
use lib.ListN.{get_elem?}
use lib.Seq.{slice}
use borrow.Author.Tests.{lt-ltb}
use borrow.Table.Steps.{cases}
use Rattle.headers.specs.Head.{is_in}
use Rattle.names.proofs.Same.{same-eq, same_refl}
use Rattle.contents.specs.declared.Span.{Span}
use Rattle.contents.specs.Search.{Value, absent, octets}
use Rattle.rows.specs.Rows.{name_space_of}
use Rattle.rows.specs.Columns.{identifier_column, kind_at, first_at, past_at}
use Rattle.rows.specs.Chains.{Has, FindsRow}
use Rattle.elements.specs.Judge.{Element, shares, most_elements}
use Rattle.letters.specs.Apart.{Apart}
use Rattle.judging.proofs.Lists.{below_length, at-below}
use Rattle.reading.specs.declared.Side.{Side}
use Rattle.reading.specs.declared.Side.TheVariants.{Layout, Logical}
use Rattle.reading.specs.Match.{kinds_of}
use Rattle.letters.specs.Telling.{name_in, RowsTell}
use Rattle.rows.specs.Columns.{span_at}
use Rattle.reading.proofs.Looking.{name-there}
use Rattle.reading.proofs.OnePlace.{one-element}
use Rattle.reading.proofs.Single.{side-space, clash-identifier}
use Rattle.parents.specs.Parent.{shorter, shorter_of, parent_kinds, is_parent_of, first_row, parent, no_parent, row_or_none}
use Rattle.parents.specs.Lookup.{object_space, CutAt, on_side}
use Rattle.parents.proofs.Shorter.{name-cut, name-whole}
use Rattle.parents.proofs.Firsts.{first-none, first_one}

-- both kinds are of one side
pub record OneSide (kind other : ℕ) : Type 0 where
  pub side : Side
  pub on : is_in kind (kinds_of side) ≡ true
  pub other_on : is_in other (kinds_of side) ≡ true

pub one_side : (kind other : ℕ) → is_in other (parent_kinds kind) ≡ true → OneSide kind other
unfolding parent_kinds
one_side kind other e =
    cases (is_in kind (kinds_of Layout))
    (λ t. record { side = Layout; on = t; other_on = rw t at e })
    (λ t.
    cases (is_in kind (kinds_of Logical))
    (λ u. record { side = Logical; on = u; other_on = rw (t, u) at e })
    (λ u. absurd (false≢true (rw (t, u) at e))))

-- a kind that cannot be its own parent's has no parent at all
pub no_kind : (kind other : ℕ) → is_in kind (parent_kinds kind) ≡ false → is_in other (parent_kinds kind) ≡ false
unfolding parent_kinds
no_kind kind other e =
    cases (is_in kind (kinds_of Layout))
    (λ t. absurd (true≢false (sym t ∙ (rw t at e))))
    (λ t.
    cases (is_in kind (kinds_of Logical))
    (λ u. absurd (true≢false (sym u ∙ (rw (t, u) at e))))
    (λ u. rw (t, u)))

-- what it is to share a value
pub shared : (v w : Value) → shares v w ≡ true → (bytes : List ℕ) × (v ≡ octets bytes) × (w ≡ octets bytes)
shared absent w e = absurd (false≢true e)
shared (octets xs) absent e = absurd (false≢true e)
shared (octets xs) (octets ys) e = let p : xs ≡ ys = same-eq xs ys e in (xs, refl, ap octets (sym p))

-- an element that is a parent
pub record Carries (child element : Element) : Type 0 where
  pub sides : OneSide child.kind element.kind
  pub bytes : List ℕ
  pub shortened : shorter_of child.identifier ≡ octets bytes
  pub named : element.identifier ≡ octets bytes

pub carries-told : (child element : Element) → is_parent_of child element ≡ true → Carries child element
unfolding is_parent_of
carries-told child element e =
    let a = (and-eq-true_iff (is_in element.kind (parent_kinds child.kind)) (shares (shorter_of child.identifier) element.identifier)).0 e in
    let b = shared (shorter_of child.identifier) element.identifier a.1 in
    record { sides = one_side child.kind element.kind a.0; bytes = b.0; shortened = b.1; named = b.2 }

pub told-carries : (child element : Element) (bytes : List ℕ) → is_in element.kind (parent_kinds child.kind) ≡ true
    → shorter_of child.identifier ≡ octets bytes → element.identifier ≡ octets bytes → is_parent_of child element ≡ true
unfolding is_parent_of
told-carries child element bytes k e f = rw (k, e, f) (same_refl bytes)

pub other-kind : (child element : Element) → is_in element.kind (parent_kinds child.kind) ≡ false → is_parent_of child element ≡ true → ⊥
unfolding is_parent_of
other-kind child element t u = false≢true (rw t at u)

-- no parent without a kind that has one, nor without a shorter identifier
pub none-of-kind : (elements : List Element) (child : Element) → is_in child.kind (parent_kinds child.kind) ≡ false
    → first_row (is_parent_of child) elements ≡ none
none-of-kind elements child e =
    first-none (is_parent_of child) elements (λ k x there t. other-kind child x (no_kind child.kind x.kind e) t)

pub none-shorter : (elements : List Element) (child : Element) → shorter_of child.identifier ≡ absent → first_row (is_parent_of child) elements ≡ none
none-shorter elements child e =
    first-none (is_parent_of child) elements
    (λ k x there t.
    let c = carries-told child x t in
    let f : absent ≡ octets c.bytes = sym e ∙ c.shortened in
    let z : ◌≡◌ {A = ℕ} 0 1 = cc in absurd (omega arith))

-- two classes or objects of an accepted letter that have one identifier are one
pub one-carrier : (elements : List Element) → Apart elements → (i k : ℕ) (d e : Element) (bytes : List ℕ) → get_elem? elements i ≡ some d
    → get_elem? elements k ≡ some e
    → name_space_of d.kind ≡ object_space → name_space_of e.kind ≡ object_space → d.identifier ≡ octets bytes → e.identifier ≡ octets bytes → i ≡ k
one-carrier elements apart i k d e bytes p q f g u v =
    one-element elements apart i k d e p q (clash-identifier d e bytes (f ∙ sym g) u v) (clash-identifier e d bytes (g ∙ sym f) v u)

module _ {s rows : List ℕ} {n : ℕ} {elements : List Element} (ready : RowsTell s rows n elements) (child : Element) (bytes : List ℕ)
    (shortened : shorter_of child.identifier ≡ octets bytes) where
  abbrev HasName : ℕ → Type 0
  HasName k = Has s rows identifier_column n object_space bytes k

  -- a parent has the shorter identifier
  parent_named : (k : ℕ) (x : Element) → is_parent_of child x ≡ true → (name_space_of x.kind ≡ object_space) × (x.identifier ≡ octets bytes)
  parent_named k x t =
      let c = carries-told child x t in
      let f : octets c.bytes ≡ octets bytes = sym c.shortened ∙ shortened in
      (side-space c.sides.side x.kind c.sides.other_on, c.named ∙ f)

  passes-has : (k : ℕ) (x : Element) → get_elem? elements k ≡ some x → is_parent_of child x ≡ true → HasName k
  passes-has k x there t =
      let p = parent_named k x t in
      let tells = ready.tells k x there in
      let h = name-there s (span_at rows identifier_column k) bytes (sym tells.identifier ∙ p.1) in
      record {
        below = omega (arith, below_length elements k x there, ready.counted);
        present = h.0;
        of_space = ap name_space_of tells.kind ∙ p.0;
        of_bytes = h.1;
      }

  has_named : (k : ℕ) (x : Element) → get_elem? elements k ≡ some x → HasName k → (name_space_of x.kind ≡ object_space) × (x.identifier ≡ octets bytes)
  has_named k x there has =
      let tells = ready.tells k x there in (
        ap name_space_of (sym tells.kind) ∙ has.of_space,
        tells.identifier ∙ rw (lt-ltb (first_at rows identifier_column k) (past_at rows identifier_column k) has.present) (ap octets has.of_bytes),
      )

  found-there : (row : ℕ) → HasName row → on_side rows child.kind (Some row) ≡ row_or_none (first_row (is_parent_of child) elements)
  unfolding has_named parent_named
  found-there row has =
      let (x, there) = at-below elements row (omega (arith, has.below, ready.counted)) in
      let own = has_named row x there has in
      let kind = (ready.tells row x there).kind in
      let one : (i : ℕ) (y : Element) → get_elem? elements i ≡ some y → is_parent_of child y ≡ true → i ≡ row = λ i y at t.
      let p = parent_named i y t in
      one-carrier elements ready.apart i row y x bytes at there p.0 own.0 p.1 own.1 in
      cases (is_in x.kind (parent_kinds child.kind))
      (λ t.
      let found : first_row (is_parent_of child) elements ≡ some row =
      first_one (is_parent_of child) elements row x there (told-carries child x bytes t shortened own.1) one in
      rw (kind, t, found))
      (λ t.
      let found : first_row (is_parent_of child) elements ≡ none =
      first-none (is_parent_of child) elements
      (λ i y at u.
      let r = one i y at u in
      let same-one : some y ≡ some x = sym at ∙ ap (get_elem? elements) r ∙ there in
      let q : y ≡ x = cc in
      other-kind child x t (rw q at u)) in
      rw (kind, t, found))

  found_nowhere : ((k : ℕ) → HasName k → ⊥) → first_row (is_parent_of child) elements ≡ none
  found_nowhere never = first-none (is_parent_of child) elements (λ k x there t. never k (passes-has k x there t))

  -- the row that was found, if it is of the side, is the parent's
  pub found-parent : (found : Option ℕ) → FindsRow s rows identifier_column n object_space bytes found
      → on_side rows child.kind found ≡ row_or_none (first_row (is_parent_of child) elements)
  found-parent (Some row) finds = found-there row finds.0
  found-parent None finds = rw (found_nowhere finds)

-- a row that was found has no greater number than that of none
pub side-small : (s rows : List ℕ) (n : ℕ) (bytes : List ℕ) (found : Option ℕ) → FindsRow s rows identifier_column n object_space bytes found
    → n ≤ most_elements → (kind : ℕ) → on_side rows kind found ≤ no_parent
side-small s rows n bytes (Some row) finds l kind =
    let below : row < n = finds.0.below in
    cases (is_in (kind_at rows row) (parent_kinds kind)) (λ t. rw t (omega arith)) (λ t. rw t (omega arith))
side-small s rows n bytes None finds l kind = omega arith

-- the parent of row j, by what the code finds
module _ {s rows : List ℕ} {n : ℕ} {elements : List Element} (ready : RowsTell s rows n elements) (j : ℕ) (below : j < n) where
  -- "for other kinds"
  pub parent-other : is_in (kind_at rows j) (parent_kinds (kind_at rows j)) ≡ false → no_parent ≡ row_or_none (parent elements j)
  unfolding parent
  parent-other e =
      let (child, there) = at-below elements j (omega (arith, ready.counted)) in
      let kind = (ready.tells j child there).kind in
      let none : first_row (is_parent_of child) elements ≡ none = none-of-kind elements child (rw kind at e) in
      rw (there, none)

  module _ (name : Span) (is : name ≡ span_at rows identifier_column j) where
    shortened : (child : Element) → get_elem? elements j ≡ some child → shorter_of child.identifier ≡ shorter_of (name_in s name)
    shortened child there = ap shorter_of (ready.tells j child there).identifier ∙ ap (λ (p : Span). shorter_of (name_in s p)) (sym is)

    -- "where there is no identifier, it has one group"
    pub parent-one-group : shorter (slice name.first name.past s) ≡ absent → no_parent ≡ row_or_none (parent elements j)
    unfolding parent
    parent-one-group e =
        let (child, there) = at-below elements j (omega (arith, ready.counted)) in
        let none : first_row (is_parent_of child) elements ≡ none = none-shorter elements child (shortened child there ∙ name-whole s name.first name.past e) in
        rw (there, none)

    -- "or nobody carries the shorter one"
    pub parent-found : {at : ℕ} → CutAt s name.first name.past at → (found : Option ℕ)
        → FindsRow s rows identifier_column n object_space (slice name.first at s) found
        → (kind : ℕ) → kind ≡ kind_at rows j → on_side rows kind found ≡ row_or_none (parent elements j)
    unfolding parent
    parent-found {at} last found finds kind kind-is =
        let (child, there) = at-below elements j (omega (arith, ready.counted)) in
        let e : shorter_of child.identifier ≡ octets (slice name.first at s) = shortened child there ∙ name-cut last in
        let k : kind ≡ child.kind = kind-is ∙ (ready.tells j child there).kind in
        rw (there, k) (found-parent ready child (slice name.first at s) e found finds)
