-- In an accepted letter a portion has one unit at most, since no two units share an identifier; and a unit one match at most on a side,
-- since a portion number is all after the last space, so that the unit's identifier tells the element's and the portion. So there are no
-- more matches than units, nor than portions.
use mathlib.Core.Path.{◌≡◌, refl, ap, sym, ◌∙◌, subst}
use mathlib.Core.Bool.{true, cond, false≢true, true≢false, or-true}
use mathlib.Core.Option.{some}
use mathlib.Core.List.{List, [], ◌∷◌, ◌++◌, map, Memᴰ}
use Prim.Native.Nat.{ℕ, zero, suc, ◌+◌, ◌≤◌}
use native.Mathlib.Omega.{arith}
use lib.Dec.{eqb}
use lib.ListN.{length, get_elem?, length-append, length-map}
use borrow.Author.Tests.{eqb-true, eq-eqb}
use borrow.Table.Steps.{cases}
use Rattle.headers.specs.Head.{is_in}
use Rattle.names.specs.Names.{space_byte}
use Rattle.names.proofs.Same.{same_refl}
use Rattle.names.proofs.Joined.{joined-parts}
use Rattle.rows.specs.Rows.{name_space_of}
use Rattle.contents.specs.Search.{octets}
use Rattle.elements.specs.Judge.{Element, shares, clash}
use Rattle.letters.specs.Apart.{Apart}
use Rattle.reading.specs.declared.Match.{Match}
use Rattle.reading.specs.declared.Side.{Side}
use Rattle.reading.specs.declared.Side.TheVariants.{Layout, Logical}
use Rattle.reading.specs.Match.{unit_kind, kinds_of, name_on, joins, for_each, portion_matches, element_matches, matches, IsMatch, units, portions_on}
use Rattle.reading.proofs.Lists.{once-fits, once-map}
use Rattle.reading.proofs.Each.{none_passes, few-pass, each_none, each-few}
use Rattle.reading.proofs.OnePlace.{portion-spelt, one_place, one-element}
use Rattle.reading.proofs.Matches.{joins-told, matches-are, matches-once}

-- the elements of a side are of one name space
pub side-space : (side : Side) (kind : ℕ) → is_in kind (kinds_of side) ≡ true → name_space_of kind ≡ 1
unfolding name_space_of
side-space Layout kind e =
    cases (eqb kind 1) (λ t. rw (eqb-true kind 1 t))
    (λ t. cases (eqb kind 2) (λ u. rw (eqb-true kind 2 u)) (λ u. absurd (false≢true (rw (t, u) at e))))
side-space Logical kind e =
    cases (eqb kind 5) (λ t. rw (eqb-true kind 5 t))
    (λ t. cases (eqb kind 6) (λ u. rw (eqb-true kind 6 u)) (λ u. absurd (false≢true (rw (t, u) at e))))

-- two of a name space that have the same name clash: by their identifiers, or by the name of a side
pub clash-identifier : (d e : Element) (bytes : List ℕ) → name_space_of d.kind ≡ name_space_of e.kind → d.identifier ≡ octets bytes
    → e.identifier ≡ octets bytes
    → clash d e ≡ true
unfolding clash
clash-identifier d e bytes s p q = rw (eq-eqb _ _ s, p, q, same_refl bytes)

clash-side : (side : Side) (d e : Element) (bytes : List ℕ) → name_space_of d.kind ≡ name_space_of e.kind → name_on side d ≡ octets bytes
    → name_on side e ≡ octets bytes
    → clash d e ≡ true
unfolding clash
clash-side Layout d e bytes s p q = rw (eq-eqb _ _ s, p, q, same_refl bytes)
clash-side Logical d e bytes s p q = rw (eq-eqb _ _ s, p, q, same_refl bytes) (or-true (shares d.identifier e.identifier))

abbrev made : (e p u : ℕ) → Match
made e p u = record { element = e; portion = p; unit = u }

-- the numbers of the text units, from n on
unfoldable units_from : ℕ → List Element → List ℕ
units_from n [] = []
units_from n (e ∷ es) = cond (eqb e.kind unit_kind) (n ∷ units_from (suc n) es) (units_from (suc n) es)

length-units : (n : ℕ) (es : List Element) → length (units_from n es) ≡ units es
unfolding units_from units
length-units n [] = refl
length-units n (e ∷ es) =
    let l = length-units (suc n) es in
    cases (eqb e.kind unit_kind) (λ t. rw t (omega arith)) (λ t. rw t (omega arith))

unit-in : (n : ℕ) (es : List Element) (k : ℕ) (u : Element) → get_elem? es k ≡ some u → u.kind ≡ unit_kind → Memᴰ (n + k) (units_from n es)
unfolding units_from
unit-in n [] k u p e = let z : ◌≡◌ {A = ℕ} 0 1 = cc in absurd (omega arith)
unit-in n (x ∷ es) zero u p e =
    let q : x ≡ u = cc in
    let f : x.kind ≡ unit_kind = ap (λ (y : Element). y.kind) q ∙ e in
    let i : n + 0 ≡ n = omega arith in
    rw (eq-eqb _ _ f) (mathlib.Core.List.Memᴰ.head i)
unit-in n (x ∷ es) (suc k) u p e =
    let i : n + suc k ≡ suc n + k = omega arith in
    let r : Memᴰ (n + suc k) (units_from (suc n) es) = rw i (unit-in (suc n) es k u p e) in
    cases (eqb x.kind unit_kind) (λ t. rw t (mathlib.Core.List.Memᴰ.tail r)) (λ t. rw t r)

units-few : (es : List Element) → units es ≤ length es
unfolding units
units-few [] = omega arith
units-few (e ∷ es) = let l = units-few es in cases (eqb e.kind unit_kind) (λ t. rw t (omega arith)) (λ t. rw t (omega arith))

-- an element none of whose portions joins a unit has no match
pub unread : (side : Side) (elements : List Element) (e : ℕ) (element : Element)
    → ((portion : List ℕ) (unit : Element) → joins side element portion unit ≡ true → ⊥) → element_matches side elements e element ≡ []
unfolding element_matches portion_matches
unread side elements e element never =
    each_none (portion_matches side elements e element)
    (λ p portion. none_passes (joins side element portion) (made e p) 0 elements (λ k unit _. never portion unit)) 0 element.portions

module _ (elements : List Element) (apart : Apart elements) (side : Side) where
  -- two units with the same name on a side are one
  pub one_unit : (i j : ℕ) (u v : Element) (bytes : List ℕ) → get_elem? elements i ≡ some u → get_elem? elements j ≡ some v → u.kind ≡ unit_kind
      → v.kind ≡ unit_kind → name_on side u ≡ octets bytes → name_on side v ≡ octets bytes → i ≡ j
  one_unit i j u v bytes p q k l m n =
      let s : name_space_of u.kind ≡ name_space_of v.kind = ap name_space_of (k ∙ sym l) in
      one-element elements apart i j u v p q (clash-side side u v bytes s m n) (clash-side side v u bytes (sym s) n m)

  -- a portion of an element has at most one unit
  pub portion-one-unit : (m n : Match) → IsMatch side elements m → IsMatch side elements n → m.element ≡ n.element → m.portion ≡ n.portion
      → m.unit ≡ n.unit
  portion-one-unit m n a b e p =
      let d : some a.element ≡ some b.element = sym a.element_there ∙ ap (get_elem? elements) e ∙ b.element_there in
      let f : a.element ≡ b.element = cc in
      let g : some a.portion ≡ some b.portion =
      sym a.portion_there ∙ ap (get_elem? a.element.portions) p ∙ ap (λ (x : Element). get_elem? x.portions n.portion) f ∙ b.portion_there in
      let h : a.portion ≡ b.portion = cc in
      let i : octets a.joined.identifier ≡ octets b.joined.identifier =
      sym a.joined.named ∙ ap (λ (x : Element). x.identifier) f ∙ b.joined.named in
      let j : a.joined.identifier ≡ b.joined.identifier = cc in
      let bytes = a.joined.identifier ++ space_byte ∷ a.portion in
      let k : name_on side b.unit ≡ octets bytes = b.joined.spelt ∙ rw (j, h) in
      one_unit m.unit n.unit a.unit b.unit bytes a.unit_there b.unit_there a.joined.of_unit b.joined.of_unit a.joined.spelt k

  module _ (m n : Match) (a : IsMatch side elements m) (b : IsMatch side elements n) (same-unit : m.unit ≡ n.unit) where
    -- the unit's identifier tells the element's identifier and the portion
    told : (a.joined.identifier ≡ b.joined.identifier) × (a.portion ≡ b.portion)
    told =
        let u : some a.unit ≡ some b.unit = sym a.unit_there ∙ ap (get_elem? elements) same-unit ∙ b.unit_there in
        let v : a.unit ≡ b.unit = cc in
        let w : octets (a.joined.identifier ++ space_byte ∷ a.portion) ≡ octets (b.joined.identifier ++ space_byte ∷ b.portion) =
        sym a.joined.spelt ∙ ap (name_on side) v ∙ b.joined.spelt in
        let z : a.joined.identifier ++ space_byte ∷ a.portion ≡ b.joined.identifier ++ space_byte ∷ b.portion = cc in
        joined-parts a.joined.identifier b.joined.identifier a.portion b.portion
        (portion-spelt a.element (apart.spelt m.element a.element a.element_there) m.portion a.portion a.portion_there)
        (portion-spelt b.element (apart.spelt n.element b.element b.element_there) n.portion b.portion b.portion_there) z

    same-element : m.element ≡ n.element
    same-element =
        let s : name_space_of a.element.kind ≡ name_space_of b.element.kind =
        side-space side a.element.kind a.joined.on_side ∙ sym (side-space side b.element.kind b.joined.on_side) in
        let named : b.element.identifier ≡ octets a.joined.identifier = b.joined.named ∙ ap octets (sym told.0) in
        one-element elements apart m.element n.element a.element b.element a.element_there b.element_there
        (clash-identifier a.element b.element a.joined.identifier s a.joined.named named)
        (clash-identifier b.element a.element a.joined.identifier (sym s) named a.joined.named)

    same-portion : m.portion ≡ n.portion
    same-portion =
        let d : some a.element ≡ some b.element = sym a.element_there ∙ ap (get_elem? elements) same-element ∙ b.element_there in
        let f : b.element ≡ a.element = cc in
        let there : get_elem? a.element.portions n.portion ≡ some a.portion =
        ap (λ (x : Element). get_elem? x.portions n.portion) (sym f) ∙ b.portion_there ∙ ap some (sym told.1) in
        one_place a.element.portions (apart.once m.element a.element a.element_there) m.portion n.portion a.portion
        a.portion_there there

  -- a unit has at most one match on a side
  pub unit-one-match : (m n : Match) → IsMatch side elements m → IsMatch side elements n → m.unit ≡ n.unit → m ≡ n
  unit-one-match m n a b e =
      let p : m.element ≡ n.element = same-element m n a b e in
      let q : m.portion ≡ n.portion = same-portion m n a b e in
      ap (λ (k : ℕ). made k m.portion m.unit) p ∙ ap (λ (k : ℕ). made n.element k m.unit) q ∙ ap (made n.element n.portion) e

  -- what is listed for a portion is one match at most,
  portion-few : (e : ℕ) (element : Element) (p : ℕ) (portion : List ℕ) → length (portion_matches side elements e element p portion) ≤ 1
  unfolding portion_matches
  portion-few e element p portion =
      few-pass (joins side element portion) (made e p) 0 elements
      (λ i j u v f g s t.
      let a = joins-told side element portion u s in
      let b = joins-told side element portion v t in
      let w : octets b.identifier ≡ octets a.identifier = sym b.named ∙ a.named in
      let x : b.identifier ≡ a.identifier = cc in
      one_unit i j u v (a.identifier ++ space_byte ∷ portion) f g a.of_unit b.of_unit a.spelt
      (b.spelt ∙ ap (λ (l : List ℕ). octets (l ++ space_byte ∷ portion)) x))

  -- for an element as many as its portions, or none if it is not of the side,
  by-portions : (e : ℕ) (element : Element) → length (element_matches side elements e element) ≤ length element.portions
  unfolding element_matches
  by-portions e element = each-few (portion_matches side elements e element) (portion-few e element) 0 element.portions

  element-few : (e : ℕ) (element : Element) → length (element_matches side elements e element) ≤ cond (is_in element.kind (kinds_of side))
      (length element.portions) 0
  element-few e element =
      cases (is_in element.kind (kinds_of side))
      (λ t. rw t (by-portions e element))
      (λ t. rw (t, unread side elements e element (λ p u j. true≢false (sym (joins-told side element p u j).on_side ∙ t))) (omega arith))

  some-few : (n : ℕ) (xs : List Element) → length (for_each n xs (element_matches side elements)) ≤ portions_on side xs
  unfolding for_each portions_on
  some-few n [] = omega arith
  some-few n (x ∷ xs) =
      simp (length-append (element_matches side elements n x) (for_each (suc n) xs (element_matches side elements)))
      (let a = element-few n x in let b = some-few (suc n) xs in omega arith)

  -- and in all no more than the portions that are listed on the side
  pub no-more-than-portions : length (matches side elements) ≤ portions_on side elements
  unfolding matches
  no-more-than-portions = some-few 0 elements

  -- nor more than the text units
  pub no-more-than-units : length (matches side elements) ≤ units elements
  no-more-than-units =
      let ms = matches side elements in
      let few = once-fits (map (λ m. m.unit) ms) (units_from 0 elements)
      (once-map (λ m. m.unit) ms (matches-once side elements)
      (λ m n a b. unit-one-match m n (matches-are side elements m a) (matches-are side elements n b)))
      (λ u i. unit-listed u (mathlib.Core.List.Memᴰ.of_map (λ m. m.unit) ms i)) in
      omega (arith, length-map ms (λ m. m.unit), length-units 0 elements)
    where
      unit-listed : (u : ℕ) → ((m : Match) × Memᴰ m (matches side elements) × (m.unit ≡ u)) → Memᴰ u (units_from 0 elements)
      unit-listed u (m, i, e) =
          let a = matches-are side elements m i in
          let z : 0 + m.unit ≡ u = omega arith in
          subst (λ (k : ℕ). Memᴰ k (units_from 0 elements)) z (unit-in 0 elements m.unit a.unit a.unit_there a.joined.of_unit)

  -- so no more than all elements
  pub no-more-than-elements : length (matches side elements) ≤ length elements
  no-more-than-elements = omega (arith, no-more-than-units, units-few elements)
