-- The pass from its start, after the profile, to its end; and that no number wraps on the way.
use Rattle.std.specs.Prelude.{None, Some}
use mathlib.Core.Path.{◌≡◌, refl, ap, sym, ◌∙◌, subst}
use mathlib.Core.Logic.{◌⊎◌, inl, inr}
use mathlib.Core.Bool.{true, false, cond, ◌&&◌}
use mathlib.Core.List.{List, [], ◌∷◌}
use Prim.Native.Nat.{ℕ, suc, ◌*◌, ◌<◌, ◌≤◌}
use native.Mathlib.Omega.{arith}
use lib.Dec.{eqb}
use lib.ListN.{length, take, drop_of_length-le}
use borrow.Author.Tests.{eq-eqb, ne_eqb, not-true, not-false}
use Rattle.elements.specs.Judge.{Element}
use Rattle.reading.specs.declared.Side.{Side}
use Rattle.reading.specs.Match.{matches}
use Rattle.letters.specs.Telling.{element_at}
use Rattle.order.specs.Represents.{◌∈◌, LimitsAside}
use Rattle.order.specs.declared.Class.TheVariants.{A}
use Rattle.order.specs.Fault.{fault_of}
use Rattle.order.specs.PassA.{sights_a, pass_a, place_a}
use Rattle.order.proofs.PassA.{pass_exactly}
use Rattle.order_a.specs.declared.ranks.Sight.{Sight}
use Rattle.order_a.specs.Step.{next, waiting, as_state, Small}
use Rattle.order_a.proofs.Steps.{count-few, one-few}
use Rattle.owners.specs.Owner.{match_of}
use Rattle.order_a.specs.declared.turns.Own.{Own}
use Rattle.order_a.specs.declared.Walk.{Walk}
use Rattle.order_a.specs.Turns.{kind_for}
use Rattle.order_a.specs.Pass.{walk_for, start_of, Standing, Bounds}
use Rattle.order_a.proofs.Records.{unit-kind}
use Rattle.order_a.proofs.Slots.{before-none}

-- after the profile
pub start : (es : List Element) (n : ℕ) → length es ≡ n → 0 < n → (element_at es 0).kind ≡ 0 → Standing es 1 (start_of n)
unfolding place_a
start [] n c l k = absurd (omega arith)
start (x ∷ xs) n c l k =
    record {
      goes_on = rw (eq-eqb x.kind 0 k);
      least_low = omega arith;
      no_less = λ side row p u h m. absurd (first side row p u h m);
      least_is = inl (sym c);
      layouts_is = rw k;
      base_is = sym (before-none (kind_for false) (x ∷ xs));
      base_low = omega arith;
      ordered_rank = inl refl;
    }
  where
    first : (side : Side) (row p u : ℕ) → u < 1 → match_of row p u ∈ matches side (x ∷ xs) → ⊥
    first side row p u h m =
        let z : u ≡ 0 = omega arith in
        let i = unit-kind (x ∷ xs) side row p 0 (subst (λ (j : ℕ). match_of row p j ∈ matches side (x ∷ xs)) z m) in
        omega (arith, k)

pub start-bounds : (n : ℕ) → Bounds 1 (start_of n)
start-bounds n = record { row = omega arith; base = omega arith; generic = omega arith; specific = omega arith; ordered = omega arith }

-- at the end
module _ (es : List Element) (aside : LimitsAside es) (n : ℕ) (count : length es ≡ n) (w : Walk) (st : Standing es n w) where
  ends : place_a (sights_a [] es) ≡ cond (eqb w.state.generic 0 && eqb w.state.specific 0) None (Some n)
  unfolding pass_a
  ends = st.goes_on ∙ ap (λ (xs : List Element). pass_a (as_state w.state) n (sights_a (take n es) xs)) (drop_of_length-le es {i = n} (omega arith))

  pub ends-waiting : waiting w.state ≡ true → Some n ≡ fault_of A es
  unfolding waiting
  ends-waiting t = let e = not-true (eqb w.state.generic 0 && eqb w.state.specific 0) t in sym (sym (pass_exactly es aside) ∙ ends ∙ rw e)

  pub ends-whole : waiting w.state ≡ false → None ≡ fault_of A es
  unfolding waiting
  ends-whole t = let e = not-false (eqb w.state.generic 0 && eqb w.state.specific 0) t in sym (sym (pass_exactly es aside) ∙ ends ∙ rw e)

-- where the first is no profile
pub no_profile : (es : List Element) → LimitsAside es → (length es ≡ 0) ⊎ ((element_at es 0).kind ≡ 0 → ⊥) → Some 0 ≡ fault_of A es
unfolding place_a
no_profile [] aside e = sym (sym (pass_exactly [] aside) ∙ refl)
no_profile (x ∷ xs) aside (inl z) = absurd (omega arith)
no_profile (x ∷ xs) aside (inr d) = sym (sym (pass_exactly (x ∷ xs) aside) ∙ rw (ne_eqb x.kind 0 d))

-- no number wraps
pub small : (k : ℕ) (w : Walk) (x : Sight) → k ≤ 4096 → Bounds k w → x.lists ≤ 64 → Small w.state x
small k w x l b few =
    record { generic = omega (arith, b.generic); specific = omega (arith, b.specific); ordered = omega (arith, b.ordered); lists = omega arith }

pub bounds-next : (k : ℕ) (w : Walk) (x : Sight) (layout logical : Own) (row base : ℕ) → Bounds k w → x.lists ≤ 64 → row ≤ k → base ≤ 64 * row
    → Bounds (suc k) (walk_for w x layout logical row base)
unfolding walk_for next
bounds-next k w x layout logical row base b few r h =
    record {
      row = omega arith;
      base = h;
      generic = omega (arith, b.generic, count-few x.kind 1 5 x.lists);
      specific = omega (arith, b.specific, count-few x.kind 2 6 x.lists);
      ordered = omega (arith, b.ordered, one-few x.ordered);
    }
