-- The rule is over kinds and matches: a unit represents a portion exactly when the reading list of the element's side has their record; and the
-- number that the pass for class B looks at is the element of the unit's record. What the pass for class A asks of an element after a front is
-- told by records too: whether a unit before it represents one of its portions, and what a unit represents before it.
use mathlib.Core.Path.{◌≡◌, refl, ap, sym, ◌∙◌, subst}
use mathlib.Core.Logic.{◌⊎◌, inl, inr, ◌↔◌}
use mathlib.Core.Bool.{true, ◌&&◌, false≢true}
use mathlib.Core.Option.{some}
use mathlib.Core.List.Memᴰ
use mathlib.Core.List.{List, [], ◌∷◌, ◌++◌, map}
use Prim.Native.Nat.{ℕ, zero, suc, ◌+◌, ◌<◌}
use native.Mathlib.Omega.{arith}
use lib.Dec.{eqb}
use lib.ListN.{length, get_elem?, get_or}
use borrow.Author.Tests.{eqb-true}
use borrow.Table.Steps.{cases}
use Rattle.headers.specs.Head.{is_in}
use Rattle.portions.specs.Portions.{any}
use Rattle.elements.specs.Judge.{Element}
use Rattle.reading.specs.declared.Match.{Match}
use Rattle.reading.specs.declared.Side.{Side}
use Rattle.reading.specs.declared.Side.TheVariants.{Layout}
use Rattle.reading.specs.Match.{kinds_of, matches, Joined, IsMatch}
use Rattle.reading.proofs.Lists.{at-get_d}
use Rattle.reading.proofs.Matches.{matches-are, matches-all}
use Rattle.order.specs.Represents.{◌∈◌, side_of, represents, is_associated, LimitsAside}
use Rattle.order.specs.Ranks.{rank_in}
use Rattle.order.specs.ClassB.{end_b, rank_b}
use Rattle.order.specs.ClassA.{represents_some}
use Rattle.order.specs.PassB.{layout_owner}
use Rattle.order.proofs.Tests.{both, any-in, any_of, member-at}
use Rattle.order.proofs.Representing.{represents-told, represents-of, associated-told, associated-of}
use Rattle.order.proofs.RanksA.{some-told, some_of}
use Rattle.order.proofs.PassB.{owner-beyond, owner-exact}

abbrev made : (e p u : ℕ) → Match
made e p u = record { element = e; portion = p; unit = u }

at_in : {A : Type 0} (xs : List A) (k : ℕ) (x : A) → get_elem? xs k ≡ some x → x ∈ xs
at_in [] k x e = let z : ◌≡◌ {A = ℕ} 0 1 = cc in absurd (omega arith)
at_in (y ∷ xs) zero x e = let p : x ≡ y = cc in Memᴰ.head p
at_in (y ∷ xs) (suc k) x e = Memᴰ.tail (at_in xs k x e)

module _ (es : List Element) (i q j : ℕ) (e : Element) (p : List ℕ) (u : Element)
    (at-e : get_elem? es i ≡ some e) (at_p : get_elem? e.portions q ≡ some p) (at-u : get_elem? es j ≡ some u) where
  joined-match : (side : Side) → IsMatch side es (made i q j) → Joined side e p u
  joined-match side m =
      let a : some m.element ≡ some e = sym m.element_there ∙ at-e in
      let b : m.element ≡ e = cc in
      let c : some m.unit ≡ some u = sym m.unit_there ∙ at-u in
      let d : m.unit ≡ u = cc in
      let f : some m.portion ≡ some p = sym m.portion_there ∙ ap (λ (x : Element). get_elem? x.portions q) b ∙ at_p in
      let g : m.portion ≡ p = cc in
      subst (λ (x : Element). Joined side x p u) b (subst (λ (y : List ℕ). Joined side m.element y u) g
      (subst (λ (z : Element). Joined side m.element m.portion z) d m.joined))

  pub represents-match : (represents e p u ≡ true) ↔ (made i q j ∈ matches (side_of e) es)
  represents-match = (
    λ t. matches-all (side_of e) es (made i q j)
        (record { element = e; portion = p; unit = u; element_there = at-e; portion_there = at_p; unit_there = at-u; joined = represents-told e p u t }),
    λ m. represents-of e p u (joined-match (side_of e) (matches-are (side_of e) es (made i q j) m)),
  )

-- where an element stands, the list parts
record Parted (es : List Element) (i : ℕ) (e : Element) : Type 0 where
  pre : List Element
  post : List Element
  parts : es ≡ pre ++ e ∷ post
  place : length pre ≡ i

parted : (es : List Element) (i : ℕ) (e : Element) → get_elem? es i ≡ some e → Parted es i e
parted [] i e t = let z : ◌≡◌ {A = ℕ} 0 1 = cc in absurd (omega arith)
parted (x ∷ es) zero e t = let p : x ≡ e = cc in record { pre = []; post = es; parts = ap (λ (y : Element). y ∷ es) p; place = refl }
parted (x ∷ es) (suc i) e t =
    let r = parted es i e t in
    record { pre = x ∷ r.pre; post = r.post; parts = ap (λ (l : List Element). x ∷ l) r.parts; place = ap suc r.place }

layout-tabled : (e : Element) → is_in e.kind (kinds_of Layout) ≡ true → rank_b e < end_b
unfolding rank_in
layout-tabled e t =
    cases (eqb e.kind 1) (λ a. rw (eqb-true e.kind 1 a) (omega arith))
    (λ a. cases (eqb e.kind 2) (λ b. rw (eqb-true e.kind 2 b) (omega arith)) (λ b. absurd (false≢true (rw (a, b) at t))))

owner-told : (n : ℕ) (es : List Element) (u : Element) (i : ℕ) → layout_owner n es u ≡ suc (n + i)
    → (e : Element) × (get_elem? es i ≡ some e) × (is_in e.kind (kinds_of Layout) ≡ true) × (is_associated e u ≡ true)
unfolding layout_owner
owner-told n [] u i t = absurd (omega arith)
owner-told n (e ∷ es) u i t =
    cases (is_in e.kind (kinds_of Layout) && is_associated e u)
    (λ o. let s : suc n ≡ suc (n + i) = rw o at t in
    let z : i ≡ 0 = omega arith in
    let r = both (is_in e.kind (kinds_of Layout)) (is_associated e u) o in
    (e, ap (get_elem? (e ∷ es)) z, r.0, r.1))
    (λ o. later (owner-told (suc n) es u) i (rw o at t))
  where
    later : ((k : ℕ) → layout_owner (suc n) es u ≡ suc (suc n + k) → (d : Element) × (get_elem? es k ≡ some d) × (is_in d.kind (kinds_of Layout) ≡ true)
        × (is_associated d u ≡ true))
        → (k : ℕ) → layout_owner (suc n) es u ≡ suc (n + k) → (d : Element) × (get_elem? (e ∷ es) k ≡ some d) × (is_in d.kind (kinds_of Layout) ≡ true)
        × (is_associated d u ≡ true)
    later below zero s = absurd (beyond (owner-beyond (suc n) es u))
      where
        beyond : (layout_owner (suc n) es u ≡ 0) ⊎ (suc n < layout_owner (suc n) es u) → ⊥
        beyond (inl z) = omega arith
        beyond (inr l) = omega arith
    later below (suc k) s = below k (s ∙ index)
      where
        index : suc (n + suc k) ≡ suc (suc n + k)
        index = omega arith

-- the owner's number, plus one, is that of the element of the unit's record on the layout side
pub owner-match : (es : List Element) → LimitsAside es → (i j : ℕ) (u : Element) → get_elem? es j ≡ some u
    → (layout_owner 0 es u ≡ suc i) ↔ ((q : ℕ) × (made i q j ∈ matches Layout es))
owner-match es a i j u at-u = (to, λ (q, m). from q (matches-are Layout es (made i q j) m))
  where
    to : layout_owner 0 es u ≡ suc i → (q : ℕ) × (made i q j ∈ matches Layout es)
    to t =
        let n : suc i ≡ suc (0 + i) = omega arith in
        let (e, at-e, k, o) = owner-told 0 es u i (t ∙ n) in
        let (p, m, w) = associated-told e u o in
        let r = member-at e.portions p m in
        (r.0, subst (λ (side : Side). made i r.0 j ∈ matches side es) (rw k) ((represents-match es i r.0 j e p u at-e r.1 at-u).0 w))

    from : (q : ℕ) → IsMatch Layout es (made i q j) → layout_owner 0 es u ≡ suc i
    from q m =
        let side : side_of m.element ≡ Layout = rw m.joined.on_side in
        let joined : Joined (side_of m.element) m.element m.portion u = joined-match es i q j m.element m.portion u m.element_there
        m.portion_there at-u (side_of m.element) (subst (λ (s : Side). IsMatch s es (made i q j)) (sym side) m) in
        let o : is_associated m.element u ≡ true = associated-of m.element u m.portion
        (at_in m.element.portions q m.portion m.portion_there) (represents-of m.element m.portion u joined) in
        let r = parted es i m.element m.element_there in
        let x = owner-exact 0 r.pre m.element r.post u (subst LimitsAside r.parts a) (layout-tabled m.element m.joined.on_side) in
        let y : layout_owner 0 (r.pre ++ m.element ∷ r.post) u ≡ suc (0 + length r.pre) = eqb-true
        (layout_owner 0 (r.pre ++ m.element ∷ r.post) u) (suc (0 + length r.pre)) (x ∙ o) in
        let z : suc (0 + length r.pre) ≡ suc i = let w = r.place in omega arith in
        ap (λ (l : List Element). layout_owner 0 l u) r.parts ∙ y ∙ z

module _ {A : Type 0} where
  below : (xs : List A) (k : ℕ) (x : A) → get_elem? xs k ≡ some x → k < length xs
  below [] k x e = let z : ◌≡◌ {A = ℕ} 0 1 = cc in absurd (omega arith)
  below (y ∷ xs) zero x e = omega arith
  below (y ∷ xs) (suc k) x e = let b = below xs k x e in omega arith

  at_left : (xs ys : List A) (k : ℕ) → k < length xs → get_elem? (xs ++ ys) k ≡ get_elem? xs k
  at_left [] ys k l = absurd (omega arith)
  at_left (x ∷ xs) ys zero l = refl
  at_left (x ∷ xs) ys (suc k) l = at_left xs ys k (omega arith)

  at_here : (xs : List A) (x : A) (ys : List A) → get_elem? (xs ++ x ∷ ys) (length xs) ≡ some x
  at_here [] x ys = refl
  at_here (z ∷ xs) x ys = at_here xs x ys

-- a record of the side of element i joins one of its portions with unit j
pub record Recorded (es : List Element) (i j : ℕ) (e : Element) : Type 0 where
  pub there : get_elem? es i ≡ some e
  pub portion : ℕ
  pub record_there : made i portion j ∈ matches (side_of e) es

associated-record : (es : List Element) (i j : ℕ) (e u : Element) → get_elem? es i ≡ some e → get_elem? es j ≡ some u → is_associated e u ≡ true
    → Recorded es i j e
associated-record es i j e u at-e at-u o =
    let (p, m, w) = associated-told e u o in
    let r = member-at e.portions p m in
    record { there = at-e; portion = r.0; record_there = (represents-match es i r.0 j e p u at-e r.1 at-u).0 w }

record-associated : (es : List Element) (i j : ℕ) (e u : Element) → get_elem? es j ≡ some u → Recorded es i j e → is_associated e u ≡ true
record-associated es i j e u at-u r =
    let m = matches-are (side_of e) es (made i r.portion j) r.record_there in
    let a : some m.element ≡ some e = sym m.element_there ∙ r.there in
    let b : m.element ≡ e = cc in
    let at_p : get_elem? e.portions r.portion ≡ some m.portion = subst
    (λ (d : Element). get_elem? d.portions r.portion ≡ some m.portion) b m.portion_there in
    associated-of e u m.portion (at_in e.portions r.portion m.portion at_p)
    ((represents-match es i r.portion j e m.portion u r.there at_p at-u).1 r.record_there)

module _ (front : List Element) (x : Element) (rest : List Element) where
  abbrev whole : List Element
  whole = front ++ x ∷ rest

  -- a unit before the element represents one of its portions exactly if the list of its side has a record of the two
  pub early-match : (any (map (is_associated x) front) ≡ true) ↔ ((k : ℕ) × (k < length front) × Recorded whole (length front) k x)
  early-match = (to, λ (k, l, r). from k l r)
    where
      to : any (map (is_associated x) front) ≡ true → (k : ℕ) × (k < length front) × Recorded whole (length front) k x
      to t =
          let (u, m, o) = any-in (is_associated x) front t in
          let r = member-at front u m in
          let l = below front r.0 u r.1 in
          (r.0, l, associated-record whole (length front) r.0 x u (at_here front x rest) (at_left front (x ∷ rest) r.0 l ∙ r.1) o)

      unit-at : (k : ℕ) → k < length front → (u : Element) × (get_elem? front k ≡ some u)
      unit-at k l = (get_or front k x, at-get_d front k x l)

      from : (k : ℕ) → k < length front → Recorded whole (length front) k x → any (map (is_associated x) front) ≡ true
      from k l r =
          let (u, p) = unit-at k l in
          any_of (is_associated x) front u (at_in front k u p) (record-associated whole (length front) k x u (at_left front (x ∷ rest) k l ∙ p) r)

  -- a unit is associated with an element of these kinds before it exactly if the list of that element's side has a record of the two
  pub some-match : (kinds : List ℕ) → (represents_some kinds front x ≡ true)
      ↔ ((i : ℕ) × (e : Element) × (i < length front) × (is_in e.kind kinds ≡ true) × Recorded whole i (length front) e)
  some-match kinds = (to, λ (i, e, l, k, r). from i e l k r)
    where
      to : represents_some kinds front x ≡ true → (i : ℕ) × (e : Element) × (i < length front) × (is_in e.kind kinds ≡ true)
          × Recorded whole i (length front) e
      to t =
          let (e, m, k, o) = some-told kinds front x t in
          let r = member-at front e m in
          let l = below front r.0 e r.1 in
          (r.0, e, l, k, associated-record whole r.0 (length front) e x (at_left front (x ∷ rest) r.0 l ∙ r.1) (at_here front x rest) o)

      from : (i : ℕ) (e : Element) → i < length front → is_in e.kind kinds ≡ true → Recorded whole i (length front) e → represents_some kinds front x ≡ true
      from i e l k r =
          some_of kinds front x e (at_in front i e (sym (at_left front (x ∷ rest) i l)
          ∙ r.there)) k (record-associated whole i (length front) e x (at_here front x rest) r)
