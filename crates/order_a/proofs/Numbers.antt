-- What the numbers of a unit say of the number by which it is ordered: whether it has one, and whether that is the next.
use mathlib.Core.Path.{◌≡◌, refl, ap, sym, ◌∙◌}
use mathlib.Core.Bool.{Bool, true, false, not, ◌&&◌, ◌||◌}
use mathlib.Core.List.{List}
use Prim.Native.Nat.{ℕ, suc, ◌+◌, ◌-◌, ◌<◌, ◌≤◌}
use native.Mathlib.Omega.{arith}
use lib.Dec.{eqb, leb, ltb}
use lib.ListN.{length, take}
use borrow.Author.Tests.{eqb-true, eq-eqb, ne_eqb, leb-true, ltb-true, ltb-false}
use borrow.Table.Steps.{cases}
use Rattle.headers.specs.Head.{is_in}
use Rattle.elements.specs.Judge.{Element}
use Rattle.reading.specs.declared.Side.{Side}
use Rattle.reading.specs.declared.Side.TheVariants.{Layout, Logical}
use Rattle.reading.specs.Match.{kinds_of, matches}
use Rattle.letters.specs.Telling.{element_at}
use Rattle.order.specs.Represents.{◌∈◌, LimitsAside}
use Rattle.order.specs.ClassA.{listed_of}
use Rattle.order.specs.PassA.{slot_in}
use Rattle.order.proofs.Tests.{both}
use Rattle.order_a.specs.Step.{one}
use Rattle.owners.specs.Owner.{match_of}
use Rattle.order_a.specs.declared.turns.Own.{Own}
use Rattle.order_a.specs.Turns.{OwnIs, kind_for, own_for, row_for, turn_for, counts, before}
use Rattle.order_a.proofs.Slots.{no_slot, slot-told, behind, is-next}

module _ (es : List Element) (aside : LimitsAside es) (n k : ℕ) (below : k < length es) (side : Side) (kind : ℕ)
    (on_side : is_in kind (kinds_of side) ≡ true) (own : Own)
    (own_is : OwnIs side es n k own) (row ordered : ℕ) (row_low : row ≤ k) (base_low : before kind es row ≤ ordered) where
  abbrev slot : ℕ
  slot = slot_in 0 (listed_of kind (take k es)) (element_at es k)

  abbrev to : ℕ
  to = row_for own kind row

  abbrev base : ℕ
  base = before kind es to

  -- the unit's record, if it represents one of the kind
  module _ (t : eqb own.kind kind ≡ true) where
    is-kind : own.kind ≡ kind
    is-kind = eqb-true own.kind kind t

    pub record_of : (own.row < k) × (match_of own.row own.portion k ∈ matches side es) × ((element_at es own.row).kind ≡ own.kind)
    record_of = own_is.placed (ap (λ (i : ℕ). is_in i (kinds_of side)) is-kind ∙ on_side)

    slot_of : slot ≡ suc (before kind es own.row + own.portion)
    slot_of = let (l, m, e) = record_of in slot-told es aside k below kind side own.row own.portion l m (e ∙ is-kind)

    slot-some : eqb slot 0 ≡ false
    slot-some = ne_eqb slot 0 (λ z. let e = slot_of in omega arith)

    to-behind : ltb own.row row ≡ true → to ≡ row
    unfolding row_for
    to-behind u = rw (t, u)

    to-here : ltb own.row row ≡ false → to ≡ own.row
    unfolding row_for
    to-here u = rw (t, u)

    turn-some : eqb slot (suc ordered) ≡ eqb own.row to && (leb base ordered && eqb own.portion (ordered - base))
    turn-some =
        cases (ltb own.row row)
        (λ u. let l = ltb-true own.row row u in
        let (a, m, e) = record_of in
        let z = to-behind u in
        let far = behind es aside k below kind side own.row own.portion a m (e ∙ is-kind) row l (omega arith) in
        let q = slot_of in
        let other : eqb own.row to ≡ false = ne_eqb own.row to (λ i. omega arith) in
        ne_eqb slot (suc ordered) (λ i. omega arith) ∙ sym (rw other))
        (λ u. let z = to-here u in
        let same : eqb own.row to ≡ true = eq-eqb own.row to (sym z) in
        ap (λ (i : ℕ). eqb i (suc ordered)) (slot_of ∙ ap (λ (i : ℕ). suc (before kind es i + own.portion)) (sym z))
        ∙ is-next base own.portion ordered ∙ sym (rw same))

  to-other : eqb own.kind kind ≡ false → to ≡ row
  unfolding row_for
  to-other t = rw t

  slot-other : eqb own.kind kind ≡ false → eqb slot 0 ≡ true
  slot-other t = eq-eqb slot 0 (no_slot es aside k below kind (own_is.kinds kind on_side ∙ t))

  pub ordered_is : not (eqb slot 0) ≡ eqb own.kind kind
  ordered_is = cases (eqb own.kind kind) (λ t. ap not (slot-some t) ∙ sym t) (λ t. ap not (slot-other t) ∙ sym t)

  pub turn_is : eqb slot 0 || eqb slot (suc ordered) ≡ turn_for own kind to base ordered
  unfolding turn_for
  turn_is =
      cases (eqb own.kind kind)
      (λ t. ap (λ (b : Bool). b || eqb slot (suc ordered)) (slot-some t) ∙ turn-some t ∙ sym (rw t))
      (λ t. ap (λ (b : Bool). b || eqb slot (suc ordered)) (slot-other t) ∙ sym (rw t))

  -- portions are counted before no later element than the unit
  pub to_low : to ≤ k
  to_low =
      cases (eqb own.kind kind)
      (λ t. cases (ltb own.row row)
      (λ u. omega (arith, to-behind t u)) (λ u. let (a, m, e) = record_of t in omega (arith, to-here t u)))
      (λ t. omega (arith, to-other t))

  -- and they are no more than the ordered units
  pub base-next : turn_for own kind to base ordered ≡ true → base ≤ ordered + one (eqb own.kind kind)
  unfolding turn_for
  base-next h =
      cases (eqb own.kind kind)
      (λ t. let g : eqb own.row to && (leb base ordered && eqb own.portion (ordered - base)) ≡ true = rw t at h in
      let l = leb-true base ordered (both (leb base ordered) (eqb own.portion (ordered - base)) (both (eqb own.row to) _ g).1).0 in
      rw t (omega arith))
      (λ t. let z = ap (before kind es) (to-other t) in rw t (omega arith))

-- the row never falls, and stays if nothing is ordered
pub row-rises : (own : Own) (kind row : ℕ) → row ≤ row_for own kind row
unfolding row_for
row-rises own kind row =
    cases (eqb own.kind kind)
    (λ t. cases (ltb own.row row) (λ u. rw (t, u) (omega arith)) (λ u. let l = ltb-false own.row row u in rw (t, u) l))
    (λ t. rw t (omega arith))

pub row_stays : (own : Own) (kind row : ℕ) → eqb own.kind kind ≡ false → row_for own kind row ≡ row
unfolding row_for
row_stays own kind row t = rw t

pub row-few : (own : Own) (kind row most : ℕ) → row ≤ most → own.row ≤ most → row_for own kind row ≤ most
unfolding row_for
row-few own kind row most a b =
    cases (eqb own.kind kind)
    (λ t. cases (ltb own.row row) (λ u. rw (t, u) a) (λ u. rw (t, u) b))
    (λ t. rw t a)

-- the side of the objects by which units are ordered
pub record Ordering (es : List Element) (n k : ℕ) (layouts : Bool) (layout logical : Own) : Type 0 where
  pub side : Side
  pub on_side : is_in (kind_for layouts) (kinds_of side) ≡ true
  pub own_is : OwnIs side es n k (own_for layouts layout logical)

pub ordering : (es : List Element) (n k : ℕ) (layouts : Bool) (layout logical : Own) → OwnIs Layout es n k layout → OwnIs Logical es n k logical
    → Ordering es n k layouts layout logical
unfolding kind_for own_for
ordering es n k true layout logical a b = record { side = Layout; on_side = refl; own_is = a }
ordering es n k false layout logical a b = record { side = Logical; on_side = refl; own_is = b }

-- an ordered unit is associated with an object
pub ordered-counts : (layouts : Bool) (layout logical : Own) → eqb (own_for layouts layout logical).kind (kind_for layouts) ≡ true
    → ltb 0 (counts layout 2 logical 6) ≡ true
unfolding kind_for own_for counts
ordered-counts true layout logical t =
    cases (eqb logical.kind 6) (λ u. rw (t, u)) (λ u. rw (t, u))
ordered-counts false layout logical t =
    cases (eqb layout.kind 2) (λ u. rw (t, u)) (λ u. rw (t, u))
