-- What the rows tell of an element is what a step of the pass looks at, so the step is that of the definition.
use mathlib.Core.Path.{◌≡◌, refl, ap, sym, ◌∙◌}
use mathlib.Core.Bool.{Bool, true, false, cond, ◌&&◌, ◌||◌}
use mathlib.Core.Option.{some}
use mathlib.Core.List.{List}
use Prim.Native.Nat.{ℕ, zero, suc, ◌-◌, ◌<◌}
use native.Mathlib.Omega.{arith}
use lib.Dec.{eqb}
use lib.ListN.{length, get_elem?}
use borrow.Author.Tests.{eq-eqb, ne_eqb}
use Rattle.rows.specs.Columns.{identifier_column, kind_at}
use Rattle.elements.specs.Judge.{Element}
use Rattle.reading.specs.declared.Side.TheVariants.{Layout}
use Rattle.reading.specs.Match.{unit_kind}
use Rattle.letters.specs.Telling.{RowsTell, element_at}
use Rattle.rows.specs.Columns.{span_at, there}
use Rattle.reading.proofs.Listing.{element_there}
use Rattle.order.specs.Represents.{named, profile_kind, LimitsAside}
use Rattle.order.specs.Ranks.{rank_in}
use Rattle.order.specs.ClassB.{rows_b}
use Rattle.order.specs.PassB.{layout_owner, Sight, sight_of, StateB, StepB, goes, stops, start_b, can_come, step_b}
use Rattle.order.proofs.AsMatches.{owner-match}
use Rattle.std.specs.Prelude.{None}
use Rattle.owners.specs.Owner.{of, OwnerIs, listed_at}
use Rattle.owners.proofs.Telling.{kind-told, named-told, lists-told}
use Rattle.order_b.specs.Steps.{first_step, unit_step, may_follow, head_step}

module _ {s rows : List ℕ} {n : ℕ} {elements : List Element} (ready : RowsTell s rows n elements) (j : ℕ) (below : j < n) where
  abbrev seen : Sight
  seen = sight_of elements (element_at elements j)

  kind-seen : (kind : ℕ) → kind ≡ kind_at rows j → seen.kind ≡ kind
  kind-seen kind e = sym (e ∙ kind-told ready j below)

  -- the first is no profile, or the next may not follow
  pub first-not : (kind : ℕ) → kind ≡ kind_at rows j → (kind ≡ profile_kind → ⊥) → stops ≡ first_step seen
  first-not kind e other =
      let t : eqb seen.kind profile_kind ≡ false = ap (λ (k : ℕ). eqb k profile_kind) (kind-seen kind e) ∙ ne_eqb kind profile_kind other in
      sym (ap (λ (b : Bool). cond (b && can_come seen) (goes (start_b 0 seen)) stops) t)

  module _ (state : StateB) (kind : ℕ) (e : kind ≡ kind_at rows j) where
    follows : (b : Bool) → may_follow state kind ≡ b → may_follow state seen.kind ≡ b
    follows b t = ap (may_follow state) (kind-seen kind e) ∙ t

    pub head-not : may_follow state kind ≡ false → stops ≡ head_step state j seen
    head-not t = sym (ap (λ (b : Bool). cond (b && can_come seen) (goes (start_b j seen)) stops) (follows false t))

  -- it lists so many portions, and they can come or not
  module _ (kind lists : ℕ) (can : Bool) (e : kind ≡ kind_at rows j) (l : lists ≡ length (listed_at s rows j))
      (c : can ≡ (eqb lists 0 || there (span_at rows identifier_column j))) where
    lists-seen : lists ≡ length (element_at elements j).portions
    lists-seen = l ∙ lists-told ready j below

    can-seen : can_come seen ≡ can
    can-seen =
        ap (λ (k : ℕ). eqb k 0 || named (element_at elements j)) (sym lists-seen)
        ∙ ap (λ (b : Bool). eqb lists 0 || b) (sym (named-told ready j below)) ∙ sym c

    start_seen : (rank m : ℕ) → rank ≡ rank_in rows_b kind → start_b m seen ≡ record { rank = rank; head = m; left = lists }
    start_seen rank m r =
        ap (λ (k : ℕ). record { rank = rank_in rows_b k; head = m; left = length (element_at elements j).portions }) (kind-seen kind e)
        ∙ ap (λ (k : ℕ). record { rank = k; head = m; left = length (element_at elements j).portions }) (sym r)
        ∙ ap (λ (k : ℕ). record { rank = rank; head = m; left = k }) (sym lists-seen)

    profile-seen : kind ≡ profile_kind → eqb seen.kind profile_kind ≡ true
    profile-seen p = eq-eqb seen.kind profile_kind (kind-seen kind e ∙ p)

    pub first-cannot : kind ≡ profile_kind → can ≡ false → stops ≡ first_step seen
    first-cannot p t =
        sym (ap (λ (b : Bool). cond (b && can_come seen) (goes (start_b 0 seen)) stops) (profile-seen p)
        ∙ ap (λ (b : Bool). cond b (goes (start_b 0 seen)) stops) (can-seen ∙ t))

    pub first_goes : (rank : ℕ) → rank ≡ rank_in rows_b kind → kind ≡ profile_kind → can ≡ true → goes
        (record { rank = rank; head = 0; left = lists }) ≡ first_step seen
    first_goes rank r p t =
        sym (ap (λ (b : Bool). cond (b && can_come seen) (goes (start_b 0 seen)) stops) (profile-seen p)
        ∙ ap (λ (b : Bool). cond b (goes (start_b 0 seen)) stops) (can-seen ∙ t) ∙ ap goes (start_seen rank 0 r))

    module _ (state : StateB) (may : may_follow state kind ≡ true) where
      pub head-cannot : can ≡ false → stops ≡ head_step state j seen
      head-cannot t =
          sym (ap (λ (b : Bool). cond (b && can_come seen) (goes (start_b j seen)) stops) (follows state kind e true may)
          ∙ ap (λ (b : Bool). cond b (goes (start_b j seen)) stops) (can-seen ∙ t))

      pub head-goes : (rank : ℕ) → rank ≡ rank_in rows_b kind → can ≡ true → goes (record { rank = rank; head = j; left = lists }) ≡ head_step state j seen
      head-goes rank r t =
          sym (ap (λ (b : Bool). cond (b && can_come seen) (goes (start_b j seen)) stops) (follows state kind e true may)
          ∙ ap (λ (b : Bool). cond b (goes (start_b j seen)) stops) (can-seen ∙ t) ∙ ap goes (start_seen rank j r))

  -- a unit, by who was found to own it
  module _ (aside : LimitsAside elements) (state : StateB) where
    abbrev unit : Element
    unit = element_at elements j

    unit_there : get_elem? elements j ≡ some unit
    unit_there = element_there s rows n j below elements ready

    abbrev by_test : Bool → StepB
    by_test b = cond b (goes (record { rank = state.rank; head = state.head; left = state.left - 1 })) stops

    pub unit-nobody : OwnerIs Layout elements j None → stops ≡ unit_step state seen
    unit-nobody never =
        let t : eqb 0 (suc state.head) ≡ false = ne_eqb 0 (suc state.head) (λ e. omega arith) in
        sym (ap (λ (k : ℕ). by_test (eqb k (suc state.head))) (none (layout_owner 0 elements unit) refl) ∙ ap by_test t)
      where
        none : (k : ℕ) → layout_owner 0 elements unit ≡ k → layout_owner 0 elements unit ≡ 0
        none zero e = e
        none (suc i) e = let (q, m) = (owner-match elements aside i j unit unit_there).0 e in absurd (never i q m)

    module _ (row portion : ℕ) (own : OwnerIs Layout elements j (of row portion)) where
      owner-is : layout_owner 0 elements unit ≡ suc row
      owner-is = (owner-match elements aside row j unit unit_there).1 (portion, own)

      pub unit-other : (row ≡ state.head → ⊥) → stops ≡ unit_step state seen
      unit-other differ =
          let t : eqb (suc row) (suc state.head) ≡ false = ne_eqb (suc row) (suc state.head) (λ e. differ (omega arith)) in
          sym (ap (λ (k : ℕ). by_test (eqb k (suc state.head))) owner-is ∙ ap by_test t)

      pub unit-own : (left : ℕ) → left ≡ state.left - 1 → row ≡ state.head → goes (record {
        rank = state.rank;
        head = state.head;
        left = left;
      }) ≡ unit_step state seen
      unit-own left l e =
          let t : eqb (suc row) (suc state.head) ≡ true = eq-eqb (suc row) (suc state.head) (ap suc e) in
          ap (λ (k : ℕ). goes (record { rank = state.rank; head = state.head; left = k })) l
          ∙ sym (ap (λ (k : ℕ). by_test (eqb k (suc state.head))) owner-is ∙ ap by_test t)

  -- a step is that of a unit or that of a head
  module _ (state : StateB) where
    pub step-unit : kind_at rows j ≡ unit_kind → unit_step state seen ≡ step_b state j seen
    unfolding step_b
    step-unit e =
        let t : eqb seen.kind unit_kind ≡ true = eq-eqb seen.kind unit_kind (sym (kind-told ready j below) ∙ e) in
        sym (ap (λ (b : Bool). cond b (unit_step state seen) (head_step state j seen)) t)

    pub step-head : (kind_at rows j ≡ unit_kind → ⊥) → head_step state j seen ≡ step_b state j seen
    unfolding step_b
    step-head other =
        let t : eqb seen.kind unit_kind ≡ false = ne_eqb seen.kind unit_kind (λ e. other (kind-told ready j below ∙ e)) in
        sym (ap (λ (b : Bool). cond b (unit_step state seen) (head_step state j seen)) t)
