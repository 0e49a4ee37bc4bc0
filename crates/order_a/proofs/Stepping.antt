-- One row more, as the code takes it: of whatever elements the rows tell.
use Rattle.std.specs.Prelude.{None, Some}
use mathlib.Core.Path.{◌≡◌, refl, ap, sym, ◌∙◌, subst}
use mathlib.Core.Bool.{true, false}
use mathlib.Core.List.{List}
use Prim.Native.Nat.{ℕ, suc, ◌+◌, ◌<◌, ◌≤◌}
use borrow.Table.Steps.{cases}
use native.Mathlib.Omega.{arith}
use native.Mathlib.Numerals.{add-one}
use lib.ListN.{length}
use Rattle.rows.specs.Columns.{kind_at}
use Rattle.elements.specs.declared.Edition.{Edition}
use Rattle.elements.specs.Judge.{Element}
use Rattle.letters.specs.Scratch.{LetterRows}
use Rattle.reading.specs.declared.Side.TheVariants.{Layout, Logical}
use Rattle.letters.specs.Telling.{RowsTell}
use Rattle.order.specs.Represents.{LimitsAside}
use Rattle.order.specs.declared.Class.TheVariants.{A}
use Rattle.order.specs.Fault.{FaultIn}
use Rattle.order.proofs.PassA.{pass_exactly}
use Rattle.order_a.specs.declared.ranks.Sight.{Sight}
use Rattle.order_a.specs.Step.{stands, waiting, Small}
use Rattle.letters.proofs.Telling.{rows_tell}
use Rattle.letters.proofs.Telling.{few-rows}
use Rattle.owners.proofs.Telling.{kind-told, named-told, lists-told, meetable}
use Rattle.order_a.specs.declared.turns.Own.{Own}
use Rattle.order_a.specs.declared.Walk.{Walk}
use Rattle.order_a.specs.Turns.{OwnIs, OwnAt, kind_for, own_for, row_for, before, Reaches}
use Rattle.order_a.specs.Pass.{sight_for, walk_for, start_of, Standing, Bounds, StepAt}
use Rattle.order_a.proofs.Numbers.{row-rises, row-few}
use Rattle.order_a.proofs.Standing.{Seen, stops-here, goes-here}
use Rattle.order_a.proofs.Passing.{start, start-bounds, ends-waiting, ends-whole, small, bounds-next}

module _ {edition : Edition} {s rows : List ℕ} {n : ℕ} (rows_of_lem : LetterRows edition s rows n) (k : ℕ) (l : k < n) (w : Walk) (bounds : Bounds k w)
    (layout logical : Own)
    (a : OwnAt Layout s rows n k layout) (b : OwnAt Logical s rows n k logical) (kind row : ℕ) (kind-is : kind ≡ kind_for w.layouts)
    (row_is : row ≡ row_for (own_for w.layouts layout logical) kind w.row) where
  own-low : (own_for w.layouts layout logical).row ≤ k
  unfolding own_for
  own-low = cases w.layouts (λ t. rw t a.in_rows) (λ t. rw t b.in_rows)

  pub row_low : row ≤ k
  row_low = subst (λ (i : ℕ). i ≤ k) (sym row_is) (row-few (own_for w.layouts layout logical) kind w.row k bounds.row own-low)

  pub row_on : w.row ≤ row
  row_on = subst (λ (i : ℕ). w.row ≤ i) (sym row_is) (row-rises (own_for w.layouts layout logical) kind w.row)

  module _ (base : ℕ) (reaches : Reaches s rows n kind w.row w.base row base) (x : Sight) (x-is : x ≡ sight_for s rows k w layout logical row base) where
    lists-few : x.lists ≤ 64
    unfolding sight_for
    lists-few = subst (λ (y : Sight). y.lists ≤ 64) (sym x-is) (meetable (rows_tell rows_of_lem) k l).few

    pub small_is : Small w.state x
    small_is = small k w x (omega (arith, few-rows rows_of_lem)) bounds lists-few

    module _ (es : List Element) (ready : RowsTell s rows n es) (aside : LimitsAside es) (st : Standing es k w) where
      inside : k < length es
      inside = omega (arith, ready.counted)

      of-layout : OwnIs Layout es (length es) k layout
      of-layout = subst (λ (m : ℕ). OwnIs Layout es m k layout) (sym ready.counted) (a.is es ready)

      of-logical : OwnIs Logical es (length es) k logical
      of-logical = subst (λ (m : ℕ). OwnIs Logical es m k logical) (sym ready.counted) (b.is es ready)

      row_same : row ≡ row_for (own_for w.layouts layout logical) (kind_for w.layouts) w.row
      row_same = row_is ∙ ap (λ (i : ℕ). row_for (own_for w.layouts layout logical) i w.row) kind-is

      base_same : base ≡ before (kind_for w.layouts) es row
      base_same = reaches.is es ready (st.base_is ∙ ap (λ (i : ℕ). before i es w.row) (sym kind-is)) ∙ ap (λ (i : ℕ). before i es row) kind-is

      seen : Seen es k w layout logical row base x
      unfolding sight_for
      seen =
          subst (Seen es k w layout logical row base) (sym x-is)
          (record {
            kind = sym (kind-told ready k l);
            named_is = sym (named-told ready k l);
            lists = sym (lists-told ready k l);
            early = refl;
            generic = refl;
            specific = refl;
            ordered = refl;
            turn = refl;
          })

    pub stops : stands w.state x ≡ false → StepAt s rows n k w None
    stops t es ready aside st =
        stops-here es aside k (inside es ready aside st) w st bounds.row layout logical (of-layout es ready aside st) (of-logical es ready aside st) row base
        (row_same es ready aside st) (base_same es ready aside st) x (seen es ready aside st) t

    pub goes : (v : Walk) → v ≡ walk_for w x layout logical row base → stands w.state x ≡ true → StepAt s rows n k w (Some v)
    goes v v-is t = (
      subst (Bounds (suc k)) (sym v-is) (bounds-next k w x layout logical row base bounds lists-few row_low reaches.small),
      λ es ready aside st. subst (Standing es (suc k)) (sym v-is)
          (goes-here es aside k (inside es ready aside st) w st bounds.row layout logical (of-layout es ready aside st)
          (of-logical es ready aside st) row base
          (row_same es ready aside st) (base_same es ready aside st) x (seen es ready aside st) t),
    )

-- what is known before row k
pub record Walking (s rows : List ℕ) (n k : ℕ) (w : Walk) : Type 0 where
  pub within : k ≤ n
  pub bounds : Bounds k w
  pub standing : (es : List Element) → RowsTell s rows n es → LimitsAside es → Standing es k w

pub walking-first : {s rows : List ℕ} {n : ℕ} → 0 < n → kind_at rows 0 ≡ 0 → Walking s rows n 1 (start_of n)
walking-first {s} {rows} {n} l k =
    record {
      within = omega arith;
      bounds = start-bounds n;
      standing = λ es ready aside. start es n ready.counted l (sym (kind-told ready 0 l) ∙ k);
    }

module _ {s rows : List ℕ} {n k : ℕ} {w : Walk} (at : Walking s rows n k w) where
  pub walking-stops : StepAt s rows n k w None → FaultIn A s rows n (Some k)
  walking-stops step es ready aside = sym (step es ready aside (at.standing es ready aside)) ∙ pass_exactly es aside

  pub walking-more : {v : Walk} → k < n → StepAt s rows n k w (Some v) → Walking s rows n (k + 1) v
  walking-more {v} l step =
      subst (λ (i : ℕ). Walking s rows n i v) (sym (add-one k))
      (record { within = omega arith; bounds = step.0; standing = λ es ready aside. step.1 es ready aside (at.standing es ready aside) })

  module _ (end : n ≤ k) where
    last : k ≡ n
    last = omega (arith, at.within)

    stands_at : (es : List Element) → RowsTell s rows n es → LimitsAside es → Standing es n w
    stands_at es ready aside = subst (λ (i : ℕ). Standing es i w) last (at.standing es ready aside)

    pub walking-ends : waiting w.state ≡ true → FaultIn A s rows n (Some n)
    walking-ends t es ready aside = ends-waiting es aside n ready.counted w (stands_at es ready aside) t

    pub walking-whole : waiting w.state ≡ false → FaultIn A s rows n None
    walking-whole t es ready aside = ends-whole es aside n ready.counted w (stands_at es ready aside) t
