-- The pass from an element on, by its step there; and that the whole pass finds the fault of class B.
use Rattle.std.specs.Prelude.{Option, None, Some}
use mathlib.Core.Path.{◌≡◌, refl, ap, sym, ◌∙◌}
use mathlib.Core.Bool.{cond, ◌&&◌}
use mathlib.Core.List.{List, [], ◌∷◌, map}
use Prim.Native.Nat.{ℕ, suc, ◌+◌, ◌<◌}
use native.Mathlib.Omega.{arith}
use native.Mathlib.Numerals.{add-one}
use lib.Dec.{eqb}
use lib.ListN.{length, drop}
use lib.Seq.{drop-cons, drop-length}
use borrow.Table.Steps.{cases}
use Rattle.elements.specs.Judge.{Element}
use Rattle.letters.specs.Telling.{no_element, element_at}
use Rattle.order.specs.Represents.{profile_kind, LimitsAside}
use Rattle.order.specs.ClausesB.{ordered_b}
use Rattle.order.specs.declared.Class.TheVariants.{B}
use Rattle.order.specs.Fault.{fault_from, fault_of}
use Rattle.order.specs.PassB.{sight_of, StateB, StepB, goes, stops, can_come, step_b, after_b, pass_b, place_b}
use Rattle.order.proofs.PassB.{pass_exactly}
use Rattle.order_b.specs.Steps.{first_step}

module _ (elements : List Element) where
  -- the pass from element j on
  abbrev pub pass_from : StateB → (j : ℕ) → Option ℕ
  pass_from state j = pass_b state j (map (sight_of elements) (drop j elements))

  module _ (state : StateB) (j : ℕ) where
    next : j < length elements → pass_from state j ≡ after_b (step_b state j (sight_of elements (element_at elements j))) j (λ t. pass_from t (suc j))
    unfolding pass_b
    next l = ap (λ (es : List Element). pass_b state j (map (sight_of elements) es)) (drop-cons elements j no_element l)

    pub pass-stops : j < length elements → stops ≡ step_b state j (sight_of elements (element_at elements j)) → pass_from state j ≡ Some j
    pass-stops l e = next l ∙ ap (λ (t : StepB). after_b t j (λ u. pass_from u (suc j))) (sym e)

    pub pass-goes : (after : StateB) → j < length elements → goes after ≡ step_b state j
        (sight_of elements (element_at elements j)) → pass_from state j ≡ pass_from after (j + 1)
    pass-goes after l e = next l ∙ ap (λ (t : StepB). after_b t j (λ u. pass_from u (suc j))) (sym e) ∙ ap (pass_from after) (sym (add-one j))

    pub pass-ends : j ≡ length elements → pass_from state j ≡ cond (eqb state.left 0) None (Some j)
    unfolding pass_b
    pass-ends e = ap (λ (es : List Element). pass_b state j (map (sight_of elements) es)) (ap (λ (k : ℕ). drop k elements) e ∙ drop-length elements)

  -- and from the first
  place-first : (all : List Element) → 0 < length elements
      → place_b (map (sight_of all) elements)
      ≡ after_b (first_step (sight_of all (element_at elements 0))) 0 (λ t. pass_b t 1 (map (sight_of all) (drop 1 elements)))
  unfolding place_b
  place-first all l = of elements l
    where
      of : (es : List Element) → 0 < length es
          → place_b (map (sight_of all) es) ≡ after_b (first_step (sight_of all (element_at es 0))) 0 (λ t. pass_b t 1 (map (sight_of all) (drop 1 es)))
      of [] l = absurd (omega arith)
      of (x ∷ xs) l = cases (eqb x.kind profile_kind && can_come (sight_of all x)) (λ t. rw t) (λ t. rw t)

  module _ (aside : LimitsAside elements) (some-elements : 0 < length elements) where
    pub first_stops : stops ≡ first_step (sight_of elements (element_at elements 0)) → Some 0 ≡ fault_of B elements
    first_stops e =
        ap (λ (t : StepB). after_b t 0 (λ u. pass_from u 1)) e ∙ sym (place-first elements some-elements) ∙ pass_exactly elements aside

    pub first-starts : (start : StateB) → goes start ≡ first_step (sight_of elements (element_at elements 0)) → pass_from start 1 ≡ fault_of B elements
    first-starts start e =
        ap (λ (t : StepB). after_b t 0 (λ u. pass_from u 1)) e ∙ sym (place-first elements some-elements) ∙ pass_exactly elements aside

-- with no element there is no profile
pub none-fault : (elements : List Element) → length elements ≡ 0 → Some 0 ≡ fault_of B elements
unfolding fault_from ordered_b
none-fault [] e = refl
none-fault (x ∷ xs) e = absurd (omega arith)
