-- What the records of the reading lists tell of element k after the elements before it: whether a unit before it represents one of its portions,
-- and which element before it a unit is associated with, of which kind.
use mathlib.Core.Path.{◌≡◌, refl, ap, sym, ◌∙◌, subst}
use mathlib.Core.Bool.{true, false, false≢true}
use mathlib.Core.Option.{some}
use mathlib.Core.List.{List, [], ◌∷◌, ◌++◌, map}
use Prim.Native.Nat.{ℕ, zero, suc, ◌<◌}
use native.Mathlib.Omega.{arith}
use lib.Dec.{eqb}
use lib.ListN.{length, get_elem?, get_or, take, drop}
use lib.Seq.{split_at, length-take-le}
use borrow.Author.Tests.{eqb-true}
use borrow.Table.Steps.{cases}
use Rattle.headers.specs.Head.{is_in}
use Rattle.portions.specs.Portions.{any}
use Rattle.elements.specs.Judge.{Element}
use Rattle.letters.specs.Apart.{Apart}
use Rattle.reading.specs.declared.Match.{Match}
use Rattle.reading.specs.declared.Side.{Side}
use Rattle.reading.specs.declared.Side.TheVariants.{Layout, Logical}
use Rattle.reading.specs.Match.{unit_kind, kinds_of, matches, IsMatch}
use Rattle.letters.specs.Telling.{element_at, no_element}
use Rattle.reading.proofs.Lists.{at-get_d}
use Rattle.reading.proofs.Matches.{matches-are}
use Rattle.reading.proofs.Single.{unit-one-match}
use Rattle.order.specs.Represents.{◌∈◌, side_of, is_associated}
use Rattle.order.specs.ClassA.{represents_some}
use Rattle.order.proofs.FrontA.{of-kind, kind-of}
use Rattle.order.proofs.AsMatches.{Recorded, early-match, some-match}
use Rattle.owners.specs.Owner.{match_of}

-- a kind of a side tells the side
pub side-told : (side : Side) (e : Element) → is_in e.kind (kinds_of side) ≡ true → side_of e ≡ side
side-told Layout e t = rw t
side-told Logical e t =
    cases (eqb e.kind 5)
    (λ a. let k = eqb-true e.kind 5 a in rw k)
    (λ a. cases (eqb e.kind 6) (λ b. let k = eqb-true e.kind 6 b in rw k) (λ b. absurd (false≢true (rw (a, b) at t))))

module _ (es : List Element) where
  there : (j : ℕ) → j < length es → get_elem? es j ≡ some (element_at es j)
  there j l = at-get_d es j no_element l

  there-is : (j : ℕ) (e : Element) → get_elem? es j ≡ some e → element_at es j ≡ e
  there-is j e t = get_d_some es j e t
    where
      get_d_some : (xs : List Element) (i : ℕ) (d : Element) → get_elem? xs i ≡ some d → get_or xs i no_element ≡ d
      get_d_some [] i d p = let z : ◌≡◌ {A = ℕ} 0 1 = cc in absurd (omega arith)
      get_d_some (y ∷ xs) zero d p = let q : y ≡ d = cc in q
      get_d_some (y ∷ xs) (suc i) d p = get_d_some xs i d p

  there-below : (xs : List Element) (i : ℕ) (d : Element) → get_elem? xs i ≡ some d → i < length xs
  there-below [] i d p = let z : ◌≡◌ {A = ℕ} 0 1 = cc in absurd (omega arith)
  there-below (y ∷ xs) zero d p = omega arith
  there-below (y ∷ xs) (suc i) d p = let b = there-below xs i d p in omega arith

  -- what a record says of its element and its unit
  module _ (side : Side) (row p u : ℕ) (m : match_of row p u ∈ matches side es) where
    abbrev is : IsMatch side es (match_of row p u)
    is = matches-are side es (match_of row p u) m

    pub row_below : row < length es
    row_below = there-below es row is.element is.element_there

    pub row-kind : is_in (element_at es row).kind (kinds_of side) ≡ true
    row-kind = ap (λ (e : Element). is_in e.kind (kinds_of side)) (there-is row is.element is.element_there) ∙ is.joined.on_side

    pub record-portion : p < length (element_at es row).portions
    record-portion =
        let b = below-list is.element.portions p is.portion is.portion_there in
        subst (λ (e : Element). p < length e.portions) (sym (there-is row is.element is.element_there)) b
      where
        below-list : (xs : List (List ℕ)) (i : ℕ) (d : List ℕ) → get_elem? xs i ≡ some d → i < length xs
        below-list [] i d q = let z : ◌≡◌ {A = ℕ} 0 1 = cc in absurd (omega arith)
        below-list (y ∷ xs) zero d q = omega arith
        below-list (y ∷ xs) (suc i) d q = let b = below-list xs i d q in omega arith

    pub unit-kind : (element_at es u).kind ≡ unit_kind
    unit-kind = ap (λ (e : Element). e.kind) (there-is u is.unit is.unit_there) ∙ is.joined.of_unit

    -- no unit is its own
    pub other_row : row ≡ u → ⊥
    other_row e = differ side (element_at es u).kind unit-kind (subst (λ (i : ℕ). is_in (element_at es i).kind (kinds_of side) ≡ true) e row-kind)
      where
        differ : (given : Side) (kind : ℕ) → kind ≡ unit_kind → is_in kind (kinds_of given) ≡ true → ⊥
        differ Layout kind k t = let z : false ≡ true = rw k at t in false≢true z
        differ Logical kind k t = let z : false ≡ true = rw k at t in false≢true z

  module _ (k : ℕ) (below : k < length es) where
    abbrev pub front : List Element
    front = take k es

    abbrev pub here : Element
    here = element_at es k

    abbrev pub rest : List Element
    rest = drop (suc k) es

    pub whole : es ≡ front ++ here ∷ rest
    whole = split_at es k no_element below

    pub front_length : length front ≡ k
    front_length = length-take-le k es (omega arith)

    -- a unit before the element represents one of its portions
    pub early-of : (side : Side) (p u : ℕ) → u < k → match_of k p u ∈ matches side es → any (map (is_associated here) front) ≡ true
    early-of side p u l m =
        (early-match front here rest).1 (u, omega (arith, front_length), subst (λ (xs : List Element). Recorded xs (length front) u here) whole recorded)
      where
        recorded : Recorded es (length front) u here
        recorded =
            record {
              there = ap (get_elem? es) front_length ∙ there k below;
              portion = p;
              record_there = subst (λ (i : ℕ). match_of i p u ∈ matches (side_of here) es) (sym front_length)
                  (subst (λ (given : Side). match_of k p u ∈ matches given es) (sym (side-told side here (row-kind side k p u m))) m);
            }

    pub early-told : any (map (is_associated here) front) ≡ true → (side : Side) × (p : ℕ) × (u : ℕ) × (u < k) × (match_of k p u ∈ matches side es)
    early-told t =
        let (u, l, r) = (early-match front here rest).0 t in
        let q = subst (λ (xs : List Element). Recorded xs (length front) u here) (sym whole) r in (
          side_of here,
          q.portion,
          u,
          omega (arith, front_length),
          subst (λ (i : ℕ). match_of i q.portion u ∈ matches (side_of here) es) front_length q.record_there,
        )

    -- the unit is associated with an element of a kind before it
    pub some-of-record : (side : Side) (row p kind : ℕ) → row < k → match_of row p k ∈ matches side es → (element_at es row).kind ≡ kind
        → represents_some (kind ∷ []) front here ≡ true
    some-of-record side row p kind l m e =
        (some-match front here rest (kind ∷ [])).1 (
          row,
          element_at es row,
          omega (arith, front_length),
          kind-of (element_at es row) kind e,
          subst (λ (xs : List Element). Recorded xs row (length front) (element_at es row)) whole recorded,
        )
      where
        recorded : Recorded es row (length front) (element_at es row)
        recorded =
            record {
              there = there row (row_below side row p k m);
              portion = p;
              record_there = subst (λ (i : ℕ). match_of row p i ∈ matches (side_of (element_at es row)) es) (sym front_length)
                  (subst (λ (given : Side). match_of row p k ∈ matches given es) (sym (side-told side (element_at es row) (row-kind side row p k m))) m);
            }

    pub some-told-record : (side : Side) (kind : ℕ) → is_in kind (kinds_of side) ≡ true → represents_some (kind ∷ []) front here ≡ true
        → (row : ℕ) × (p : ℕ) × (row < k) × (match_of row p k ∈ matches side es) × ((element_at es row).kind ≡ kind)
    some-told-record side kind s t =
        let (i, e, l, a, r) = (some-match front here rest (kind ∷ [])).0 t in
        let q = subst (λ (xs : List Element). Recorded xs i (length front) e) (sym whole) r in
        let f = of-kind e kind a in
        let d = there-is i e q.there in
        let g = side-told side e (ap (λ (n : ℕ). is_in n (kinds_of side)) f ∙ s) in (
          i,
          q.portion,
          omega (arith, front_length),
          subst (λ (given : Side). match_of i q.portion k ∈ matches given es) g
              (subst (λ (n : ℕ). match_of i q.portion n ∈ matches (side_of e) es) front_length q.record_there),
          ap (λ (y : Element). y.kind) d ∙ f,
        )

  -- a unit has one record of a side at most
  pub one-record : Apart es → (side : Side) (row p row2 p2 u : ℕ) → match_of row p u ∈ matches side es → match_of row2 p2 u ∈ matches side es → row ≡ row2
  one-record apart side row p row2 p2 u m n =
      ap (λ (r : Match). r.element) (unit-one-match es apart side (match_of row p u) (match_of row2 p2 u) (is side row p u m) (is side row2 p2 u n) refl)
