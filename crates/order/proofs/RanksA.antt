-- Class A: which rank an element has, and what the rank of a unit tells.
use mathlib.Core.Path.{◌≡◌, refl, sym, ◌∙◌, subst}
use mathlib.Core.Bool.{Bool, true, false, ◌&&◌, false≢true}
use mathlib.Core.List.{List, [], ◌∷◌}
use Prim.Native.Nat.{ℕ, ◌<◌, ◌≤◌}
use native.Mathlib.Omega.{arith}
use lib.Dec.{eqb}
use borrow.Author.Tests.{eqb-true, eq-eqb}
use borrow.Table.Steps.{cases}
use Rattle.headers.specs.Head.{is_in}
use Rattle.elements.specs.Judge.{Element}
use Rattle.reading.specs.Match.{unit_kind, kinds_of}
use Rattle.order.specs.Represents.{◌∈◌, side_of, is_associated}
use Rattle.order.specs.Ranks.{rank_in}
use Rattle.order.specs.ClassA.{end_a, generic_rank, specific_rank, class_kinds, object_kinds, represents_some, unit_rank, rank_a}
use Rattle.order.specs.ClausesA.{awaited}
use Rattle.order.proofs.Tests.{both, any_of, any-in}
use Rattle.order.proofs.Representing.{represents-told, associated-told}

module _ (kinds : List ℕ) (es : List Element) (u : Element) where
  pub some-told : represents_some kinds es u ≡ true → (e : Element) × (e ∈ es) × (is_in e.kind kinds ≡ true) × (is_associated e u ≡ true)
  unfolding represents_some
  some-told t =
      let r = any-in (λ (e : Element). is_in e.kind kinds && is_associated e u) es t in
      let q = both (is_in r.0.kind kinds) (is_associated r.0 u) r.2 in
      (r.0, r.1, q.0, q.1)

  pub some_of : (e : Element) → e ∈ es → is_in e.kind kinds ≡ true → is_associated e u ≡ true → represents_some kinds es u ≡ true
  unfolding represents_some
  some_of e m k o = any_of (λ (d : Element). is_in d.kind kinds && is_associated d u) es e m (rw (k, o))

-- an owner is a class or an object
pub data Owner (e : Element) : Type 0 where
  class : is_in e.kind class_kinds ≡ true → Owner e
  object : is_in e.kind object_kinds ≡ true → Owner e

pub lister-owner : (e : Element) → is_in e.kind (1 ∷ 2 ∷ 5 ∷ 6 ∷ []) ≡ true → Owner e
lister-owner e t =
    cases (eqb e.kind 1) (λ a. class (rw a))
    (λ a. cases (eqb e.kind 2) (λ b. object (rw b))
    (λ b. cases (eqb e.kind 5) (λ c. class (rw (a, c)))
    (λ c. cases (eqb e.kind 6) (λ d. object (rw (b, d))) (λ d. absurd (false≢true (rw (a, b, c, d) at t))))))

on-side-lister : (e : Element) → is_in e.kind (kinds_of (side_of e)) ≡ true → is_in e.kind (1 ∷ 2 ∷ 5 ∷ 6 ∷ []) ≡ true
on-side-lister e t =
    cases (eqb e.kind 1) (λ a. rw a)
    (λ a. cases (eqb e.kind 2) (λ b. rw (a, b)) (λ b. rw (a, b) (rw (a, b) at t)))

pub owner : (e u : Element) → is_associated e u ≡ true → Owner e
owner e u t = let r = associated-told e u t in lister-owner e (on-side-lister e (represents-told e r.0 u r.2).on_side)

-- their ranks
pub class-rank : (es : List Element) (e : Element) → is_in e.kind class_kinds ≡ true → rank_a es e ≤ 2
unfolding rank_a rank_in
class-rank es e t =
    cases (eqb e.kind 1) (λ a. rw (eqb-true e.kind 1 a) (omega arith))
    (λ a. cases (eqb e.kind 5) (λ b. rw (eqb-true e.kind 5 b) (omega arith)) (λ b. absurd (false≢true (rw (a, b) at t))))

pub object-rank : (es : List Element) (e : Element) → is_in e.kind object_kinds ≡ true → (6 ≤ rank_a es e) × (rank_a es e ≤ 7)
unfolding rank_a rank_in
object-rank es e t =
    cases (eqb e.kind 2) (λ a. rw (eqb-true e.kind 2 a) (omega arith))
    (λ a. cases (eqb e.kind 6) (λ b. rw (eqb-true e.kind 6 b) (omega arith)) (λ b. absurd (false≢true (rw (a, b) at t))))

pub class-not-object : (e : Element) → is_in e.kind class_kinds ≡ true → is_in e.kind object_kinds ≡ true → ⊥
class-not-object e a b = let x = class-rank [] e a in let y = object-rank [] e b in omega arith

pub awaited-class : (e : Element) → is_in e.kind class_kinds ≡ true → awaited e ≡ generic_rank
unfolding awaited
awaited-class e t = rw t

pub awaited-object : (e : Element) → is_in e.kind object_kinds ≡ true → awaited e ≡ specific_rank
unfolding awaited
awaited-object e t = cases (is_in e.kind class_kinds) (λ a. absurd (class-not-object e a t)) (λ a. rw a)

-- the rank of a unit
module _ (es : List Element) (u : Element) (unit : u.kind ≡ unit_kind) where
  pub unit-rank : rank_a es u ≡ unit_rank (represents_some class_kinds es u) (represents_some object_kinds es u)
  unfolding rank_a
  unit-rank = rw (eq-eqb u.kind unit_kind unit)

  -- one with a place, which has an owner, has the rank that the owner's units have
  pub owned-rank : rank_a es u < end_a → (e : Element) → e ∈ es → is_associated e u ≡ true → rank_a es u ≡ awaited e
  owned-rank t e m o = by-owner (owner e u o)
    where
      at-class : (b : Bool) → unit_rank true b < end_a → unit_rank true b ≡ generic_rank
      at-class true l = absurd (omega arith)
      at-class false l = refl

      at-object : (b : Bool) → unit_rank b true < end_a → unit_rank b true ≡ specific_rank
      at-object true l = absurd (omega arith)
      at-object false l = refl

      by-owner : Owner e → rank_a es u ≡ awaited e
      by-owner (class k) =
          let g : represents_some class_kinds es u ≡ true = some_of class_kinds es u e m k o in
          let r : rank_a es u ≡ unit_rank true (represents_some object_kinds es u) = unit-rank ∙ rw g in
          r ∙ at-class (represents_some object_kinds es u) (subst (λ (n : ℕ). n < end_a) r t) ∙ sym (awaited-class e k)
      by-owner (object k) =
          let g : represents_some object_kinds es u ≡ true = some_of object_kinds es u e m k o in
          let r : rank_a es u ≡ unit_rank (represents_some class_kinds es u) true = unit-rank ∙ rw g in
          r ∙ at-object (represents_some class_kinds es u) (subst (λ (n : ℕ). n < end_a) r t) ∙ sym (awaited-object e k)

-- an owner's rank is below its units'
pub owner-below : (es : List Element) (e : Element) → Owner e → rank_a es e < awaited e
owner-below es e (class k) = let a = class-rank es e k in let b = awaited-class e k in omega arith
owner-below es e (object k) = let a = object-rank es e k in let b = awaited-object e k in omega arith

-- the rank is the same where the same is represented
pub rank_same : (es fs : List Element) (x : Element) → ((kinds : List ℕ) → represents_some kinds es x ≡ represents_some kinds fs x) → rank_a es x ≡ rank_a fs x
unfolding rank_a
rank_same es fs x h = rw (h class_kinds, h object_kinds)
