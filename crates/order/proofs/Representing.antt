-- What it tells that a unit represents a portion: the element has an identifier, the unit's name on the element's side is that identifier, a
-- space and the portion; so no unit represents two portions of one side.
use mathlib.Core.Path.{◌≡◌, refl, ap, sym, ◌∙◌}
use mathlib.Core.Logic.{◌⊎◌, inl, inr}
use mathlib.Core.Bool.{true, cond, ◌||◌, false≢true}
use mathlib.Core.List.{List, ◌∷◌, ◌++◌}
use Prim.Native.Nat.{ℕ, zero, suc}
use native.Mathlib.Omega.{arith}
use lib.Dec.{eqb}
use borrow.Author.Tests.{eqb-true, eq-eqb}
use borrow.Table.Steps.{cases}
use Rattle.headers.specs.Head.{is_in}
use Rattle.names.specs.Names.{space_byte, is_portion}
use Rattle.names.proofs.Same.{same-eq, same_refl}
use Rattle.names.proofs.Joined.{joined-parts}
use Rattle.rows.specs.Rows.{name_space_of}
use Rattle.contents.specs.Search.{Value, absent, octets}
use Rattle.elements.specs.Judge.{Element, shares, clash}
use Rattle.reading.specs.declared.Side.{Side}
use Rattle.reading.specs.declared.Side.TheVariants.{Layout, Logical}
use Rattle.reading.specs.Match.{unit_kind, kinds_of, name_on, Joined}
use Rattle.reading.proofs.Matches.{joins-told, joined-joins}
use Rattle.order.specs.Represents.{◌∈◌, named, side_of, represents, is_associated, is_represented, all_represented, listing}
use Rattle.order.proofs.Tests.{both, either, all_in, all_of, any_of, any-in}

pub represents-told : (e : Element) (p : List ℕ) (u : Element) → represents e p u ≡ true → Joined (side_of e) e p u
unfolding represents
represents-told e p u t = joins-told (side_of e) e p u t

pub represents-of : (e : Element) (p : List ℕ) (u : Element) → Joined (side_of e) e p u → represents e p u ≡ true
unfolding represents
represents-of e p u j = joined-joins (side_of e) e p u j

pub represents-unit : (e : Element) (p : List ℕ) (u : Element) → represents e p u ≡ true → u.kind ≡ unit_kind
represents-unit e p u t = (represents-told e p u t).of_unit

pub represents-named : (e : Element) (p : List ℕ) (u : Element) → represents e p u ≡ true → named e ≡ true
represents-named e p u t = rw (represents-told e p u t).named

-- a unit is associated with an element exactly when it represents a portion that it lists
pub associated-told : (e u : Element) → is_associated e u ≡ true → (p : List ℕ) × (p ∈ e.portions) × (represents e p u ≡ true)
unfolding is_associated
associated-told e u t = any-in (λ p. represents e p u) e.portions t

pub associated-of : (e u : Element) (p : List ℕ) → p ∈ e.portions → represents e p u ≡ true → is_associated e u ≡ true
unfolding is_associated
associated-of e u p m t = any_of (λ q. represents e q u) e.portions p m t

pub associated-unit : (e u : Element) → is_associated e u ≡ true → u.kind ≡ unit_kind
associated-unit e u t = let r = associated-told e u t in represents-unit e r.0 u r.2

pub associated-named : (e u : Element) → is_associated e u ≡ true → named e ≡ true
associated-named e u t = let r = associated-told e u t in represents-named e r.0 u r.2

module _ (us : List Element) (e : Element) where
  pub represented-told : (p : List ℕ) → is_represented us e p ≡ true → (u : Element) × (u ∈ us) × (represents e p u ≡ true)
  unfolding is_represented
  represented-told p t = any-in (represents e p) us t

  pub represented-of : (p : List ℕ) (u : Element) → u ∈ us → represents e p u ≡ true → is_represented us e p ≡ true
  unfolding is_represented
  represented-of p u m t = any_of (represents e p) us u m t

  pub all-represented-told : all_represented us e ≡ true → (p : List ℕ) → p ∈ e.portions → is_represented us e p ≡ true
  unfolding all_represented
  all-represented-told t p m = all_in (is_represented us e) e.portions t p m

  pub all-represented-of : ((p : List ℕ) → p ∈ e.portions → is_represented us e p ≡ true) → all_represented us e ≡ true
  unfolding all_represented
  all-represented-of h = all_of (is_represented us e) e.portions h

-- with more units no less is represented
pub represented-more : (us vs : List Element) (e : Element) (p : List ℕ) → ((u : Element) → u ∈ us → u ∈ vs) → is_represented us e p ≡ true
    → is_represented vs e p ≡ true
represented-more us vs e p i t = let r = represented-told us e p t in represented-of vs e p r.0 (i r.0 r.1) r.2

-- who lists portions has a side, and its name space is that of classes and objects
pub listing-side : (k : ℕ) → is_in k listing ≡ true → is_in k (kinds_of (cond (is_in k (kinds_of Layout)) Layout Logical)) ≡ true
listing-side k e =
    cases (eqb k 1) (λ t. rw t (rw t))
    (λ t. cases (eqb k 2) (λ u. rw (t, u) (rw (t, u)))
    (λ u. rw (t, u) (cases (eqb k 5) (λ v. rw v) (λ v. rw v (rw (t, u, v) at e)))))

pub side-space : (side : Side) (kind : ℕ) → is_in kind (kinds_of side) ≡ true → name_space_of kind ≡ 1
unfolding name_space_of
side-space Layout kind e =
    cases (eqb kind 1) (λ t. rw (eqb-true kind 1 t))
    (λ t. cases (eqb kind 2) (λ u. rw (eqb-true kind 2 u)) (λ u. absurd (false≢true (rw (t, u) at e))))
side-space Logical kind e =
    cases (eqb kind 5) (λ t. rw (eqb-true kind 5 t))
    (λ t. cases (eqb kind 6) (λ u. rw (eqb-true kind 6 u)) (λ u. absurd (false≢true (rw (t, u) at e))))

-- and text units alone have theirs
pub unit-space : (k : ℕ) → name_space_of k ≡ 2 → k ≡ unit_kind
unfolding name_space_of
unit-space zero e = absurd (omega arith)
unit-space (suc zero) e = absurd (omega arith)
unit-space (suc (suc zero)) e = absurd (omega arith)
unit-space (suc (suc (suc zero))) e = refl
unit-space (suc (suc (suc (suc zero)))) e = absurd (omega arith)
unit-space (suc (suc (suc (suc (suc zero))))) e = absurd (omega arith)
unit-space (suc (suc (suc (suc (suc (suc zero)))))) e = absurd (omega arith)
unit-space (suc (suc (suc (suc (suc (suc (suc zero))))))) e = absurd (omega arith)
unit-space (suc (suc (suc (suc (suc (suc (suc (suc zero)))))))) e = absurd (omega arith)
unit-space (suc (suc (suc (suc (suc (suc (suc (suc (suc k))))))))) e = absurd (omega arith)

-- two that clash are of one name space and have one name
pub record Clashing (d e : Element) : Type 0 where
  pub spaced : name_space_of d.kind ≡ name_space_of e.kind
  pub side : Side
  pub bytes : List ℕ
  pub left : name_on side d ≡ octets bytes
  pub right : name_on side e ≡ octets bytes

shares-told : (v w : Value) → shares v w ≡ true → (bytes : List ℕ) × (v ≡ octets bytes) × (w ≡ octets bytes)
shares-told absent w t = absurd (false≢true t)
shares-told (octets xs) absent t = absurd (false≢true t)
shares-told (octets xs) (octets ys) t = (xs, refl, ap octets (sym (same-eq xs ys t)))

pub clash-told : (d e : Element) → clash d e ≡ true → Clashing d e
unfolding clash
clash-told d e t =
    let a = both (eqb (name_space_of d.kind) (name_space_of e.kind)) (shares d.identifier e.identifier || shares d.logical e.logical) t in
    which (eqb-true _ _ a.0) (either (shares d.identifier e.identifier) (shares d.logical e.logical) a.1)
  where
    which : name_space_of d.kind ≡ name_space_of e.kind → (shares d.identifier e.identifier ≡ true)
        ⊎ (shares d.logical e.logical ≡ true) → Clashing d e
    which s (inl u) = let r = shares-told d.identifier e.identifier u in
        record { spaced = s; side = Layout; bytes = r.0; left = r.1; right = r.2 }
    which s (inr u) = let r = shares-told d.logical e.logical u in
        record { spaced = s; side = Logical; bytes = r.0; left = r.1; right = r.2 }

-- two of a name space with the same identifier clash
pub clash-of : (d e : Element) (bytes : List ℕ) → name_space_of d.kind ≡ name_space_of e.kind → d.identifier ≡ octets bytes → e.identifier ≡ octets bytes
    → clash d e ≡ true
unfolding clash
clash-of d e bytes s p q = rw (eq-eqb _ _ s, p, q, same_refl bytes)

-- one unit, two portions of one side: the elements clash, and the portions are the same
pub represents-one : (e f : Element) (p q : List ℕ) (u : Element) → side_of e ≡ side_of f → is_portion p ≡ true → is_portion q ≡ true
    → represents e p u ≡ true → represents f q u ≡ true → (clash e f ≡ true) × (p ≡ q)
represents-one e f p q u s a b t w =
    let i = represents-told e p u t in
    let j = represents-told f q u w in
    let z : octets (i.identifier ++ space_byte ∷ p) ≡ octets (j.identifier ++ space_byte ∷ q) = sym i.spelt ∙ ap (λ (x : Side). name_on x u) s ∙ j.spelt in
    let y : i.identifier ++ space_byte ∷ p ≡ j.identifier ++ space_byte ∷ q = cc in
    let r = joined-parts i.identifier j.identifier p q a b y in
    let n : name_space_of e.kind ≡ name_space_of f.kind = side-space (side_of e) e.kind i.on_side ∙ sym (side-space (side_of f) f.kind j.on_side) in
    (clash-of e f j.identifier n (i.named ∙ ap octets r.0) j.named, r.1)
