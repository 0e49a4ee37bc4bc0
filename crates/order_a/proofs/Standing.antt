-- One element more: what the code sees of it is what the definition looks at; where it may not stand 26 is there, and where it may, what is
-- known before the next is so again.
use Rattle.std.specs.Prelude.{Some, min}
use Rattle.std.proofs.lemmas.Bool.{cases_lt}
use mathlib.Core.Path.{◌≡◌, refl, ap, sym, ◌∙◌, subst}
use mathlib.Core.Logic.{◌⊎◌, inl, inr}
use mathlib.Core.Bool.{Bool, true, false, cond, not, ◌||◌, true≢false}
use mathlib.Core.List.{List, [], ◌∷◌, ◌++◌, map}
use Prim.Native.Nat.{ℕ, suc, ◌+◌, ◌<◌, ◌≤◌}
use native.Mathlib.Omega.{arith}
use lib.Dec.{eqb, ltb}
use lib.ListN.{length, take, drop}
use lib.Seq.{take-suc, drop-cons}
use borrow.Author.Tests.{eqb-true, eqb-false, eq-eqb, ltb-true, ltb-false}
use borrow.Table.Steps.{cases}
use Rattle.portions.specs.Portions.{all, any}
use Rattle.elements.specs.Judge.{Element}
use Rattle.reading.specs.declared.Side.{Side}
use Rattle.reading.specs.declared.Side.TheVariants.{Layout, Logical}
use Rattle.reading.specs.Match.{unit_kind, matches}
use Rattle.letters.specs.Telling.{element_at, no_element}
use Rattle.order.specs.Represents.{◌∈◌, named, is_associated, LimitsAside}
use Rattle.order.specs.Ranks.{rank_in}
use Rattle.order.specs.ClassA.{end_a, specific_rank, unit_rank, class_kinds, object_kinds, ordered_by, listed_of}
use Rattle.order.specs.PassA.{listed_in, represents_of, slot_in, sight_a, sights_a, rank_seen, tests_a, pass_a, place_a, count_if}
use Rattle.order.proofs.Place.{aside-left}
use Rattle.order.proofs.SightsA.{Passing, passing-told}
use Rattle.order.proofs.CountsA.{generic-count, specific-count}
use Rattle.order_a.specs.declared.ranks.Sight.{Sight}
use Rattle.order_a.specs.Step.{rank_of, stands, one, next, as_state, Sees}
use Rattle.order_a.proofs.Steps.{rank-seen, stands-exactly, next-exactly}
use Rattle.owners.specs.Owner.{match_of}
use Rattle.order_a.specs.declared.turns.Own.{Own}
use Rattle.order_a.specs.declared.Walk.{Walk}
use Rattle.order_a.specs.Turns.{OwnIs, kind_for, own_for, row_for, turn_for, counts, before}
use Rattle.order_a.specs.Pass.{has_layouts, walk_for, Standing}
use Rattle.order_a.proofs.Records.{whole, early-of, early-told, unit-kind}
use Rattle.order_a.proofs.Slots.{before-none}
use Rattle.order_a.proofs.Numbers.{Ordering, ordering, ordered_is, turn_is, base-next, record_of, row_stays, ordered-counts}

-- what is seen of element k, by what the element says
pub record Seen (es : List Element) (k : ℕ) (w : Walk) (layout logical : Own) (row base : ℕ) (x : Sight) : Type 0 where
  pub kind : (element_at es k).kind ≡ x.kind
  pub named_is : named (element_at es k) ≡ x.named
  pub lists : length (element_at es k).portions ≡ x.lists
  pub early : x.early ≡ eqb w.least k
  pub generic : x.generic ≡ counts layout 1 logical 5
  pub specific : x.specific ≡ counts layout 2 logical 6
  pub ordered : x.ordered ≡ eqb (own_for w.layouts layout logical).kind (kind_for w.layouts)
  pub turn : x.turn ≡ turn_for (own_for w.layouts layout logical) (kind_for w.layouts) row base w.state.ordered

any-more : {A : Type 0} (f : A → Bool) (xs : List A) (x : A) → any (map f (xs ++ x ∷ [])) ≡ any (map f xs) || f x
any-more f [] x = or_nothing (f x)
  where
    or_nothing : (b : Bool) → b || false ≡ b
    or_nothing true = refl
    or_nothing false = refl
any-more f (y ∷ xs) x = cases (f y) (λ t. rw t) (λ t. rw t (any-more f xs x))

-- a unit that is associated with an object, and has a place, is of the rank of such units
specific-place : (generic : Bool) → unit_rank generic true < end_a → specific_rank ≤ unit_rank generic true
specific-place true l = absurd (omega arith)
specific-place false l = omega arith

-- the lesser of two is one of them
min-is : (a b : ℕ) → (min a b ≡ a) ⊎ (min a b ≡ b)
min-is a b = which (cases_lt a b)
  where
    which : (a < b) ⊎ (b ≤ a) → (min a b ≡ a) ⊎ (min a b ≡ b)
    which (inl l) = inl (omega arith)
    which (inr l) = inr (omega arith)

module _ (es : List Element) (aside : LimitsAside es) (k : ℕ) (below : k < length es) (w : Walk) (st : Standing es k w) (row_low : w.row ≤ k)
    (layout logical : Own) (a : OwnIs Layout es (length es) k layout) (b : OwnIs Logical es (length es) k logical) (row base : ℕ)
    (row_is : row ≡ row_for (own_for w.layouts layout logical) (kind_for w.layouts) w.row) (base_is : base ≡ before (kind_for w.layouts) es row)
    (x : Sight) (seen : Seen es k w layout logical row base x) where
  abbrev front : List Element
  front = take k es

  abbrev here : Element
  here = element_at es k

  abbrev own : Own
  own = own_for w.layouts layout logical

  abbrev by : ℕ
  by = kind_for w.layouts

  aside-front : LimitsAside front
  aside-front = aside-left front (here ∷ drop (suc k) es) (subst LimitsAside (whole es k below) aside)

  early-is : any (map (is_associated here) front) ≡ eqb w.least k
  early-is =
      cases (eqb w.least k)
      (λ t. least (eqb-true w.least k t) st.least_is ∙ sym t)
      (λ t. cases (any (map (is_associated here) front))
      (λ u. let (side, p, v, l, m) = early-told es k below u in absurd (eqb-false w.least k t (is-least (st.no_less side k p v l m))))
      (λ u. u ∙ sym t))
    where
      least : w.least ≡ k → (w.least ≡ length es)
          ⊎ ((side : Side) × (p : ℕ) × (u : ℕ) × (u < k) × (match_of w.least p u ∈ matches side es)) → any (map (is_associated here) front) ≡ true
      least e (inl z) = absurd (omega arith)
      least e (inr (side, p, u, l, m)) = early-of es k below side p u l (subst (λ (i : ℕ). match_of i p u ∈ matches side es) e m)

      is-least : (k < k) ⊎ (w.least ≤ k) → w.least ≡ k
      is-least (inl l) = absurd (omega arith)
      is-least (inr l) = let z = st.least_low in omega arith

  ordered-by : ordered_by front ≡ by
  unfolding ordered_by kind_for
  ordered-by = rw st.layouts_is

  turns : Ordering es (length es) k w.layouts layout logical
  turns = ordering es (length es) k w.layouts layout logical a b

  base_low : before by es w.row ≤ w.state.ordered
  base_low = omega (arith, st.base_is, st.base_low)

  to_is : base ≡ before by es (row_for own by w.row)
  to_is = base_is ∙ ap (before by es) row_is

  turn-same : x.turn ≡ turn_for own by (row_for own by w.row) (before by es (row_for own by w.row)) w.state.ordered
  turn-same = seen.turn ∙ ap (λ (i : ℕ). turn_for own by i base w.state.ordered) row_is
      ∙ ap (λ (i : ℕ). turn_for own by (row_for own by w.row) i w.state.ordered) to_is

  counted : (i j : ℕ) → counts layout i logical j ≡ count_if (eqb layout.kind i) 1 + count_if (eqb logical.kind j) 1
  unfolding counts
  counted i j = refl

  -- what is seen is what the definition looks at
  pub sees : Sees w.state (sight_a front here) x
  sees =
      record {
        kind = seen.kind;
        named = seen.named_is;
        lists = seen.lists;
        early = early-is ∙ sym seen.early;
        generic = generic-count front aside-front here ∙ rw (a.kinds 1 refl, b.kinds 5 refl) (sym (seen.generic ∙ counted 1 5));
        specific = specific-count front aside-front here ∙ rw (a.kinds 2 refl, b.kinds 6 refl) (sym (seen.specific ∙ counted 2 6));
        ordered = ap (λ (i : ℕ). not (eqb (slot_in 0 (listed_of i front) here) 0)) ordered-by
            ∙ ordered_is es aside (length es) k below turns.side by turns.on_side own turns.own_is w.row w.state.ordered row_low base_low
            ∙ sym seen.ordered;
        turn = ap (λ (i : ℕ). eqb (slot_in 0 (listed_of i front) here) 0 || eqb (slot_in 0 (listed_of i front) here) (suc w.state.ordered)) ordered-by
            ∙ turn_is es aside (length es) k below turns.side by turns.on_side own turns.own_is w.row w.state.ordered row_low base_low
            ∙ sym turn-same;
      }

  tests : all (tests_a (as_state w.state) (sight_a front here)) ≡ stands w.state x
  tests = stands-exactly w.state (sight_a front here) x sees

  -- from here
  from-here : place_a (sights_a [] es) ≡ cond (stands w.state x)
      (pass_a (as_state (next w.state x)) (suc k) (sights_a (take (suc k) es) (drop (suc k) es))) (Some k)
  unfolding pass_a
  from-here =
      st.goes_on
      ∙ ap (λ (xs : List Element). pass_a (as_state w.state) k (sights_a front xs)) (drop-cons es k no_element below)
      ∙ rw (tests, next-exactly w.state (sight_a front here) x sees, take-suc es k no_element below)

  -- where it may not stand, 26 is there
  pub stops-here : stands w.state x ≡ false → place_a (sights_a [] es) ≡ Some k
  stops-here t = from-here ∙ rw t

  module _ (t : stands w.state x ≡ true) where
    passing : Passing (as_state w.state) (sight_a front here)
    passing = passing-told (as_state w.state) (sight_a front here) (tests ∙ t)

    abbrev v : Walk
    v = walk_for w x layout logical row base

    rank_is : rank_seen (sight_a front here) ≡ rank_of x
    rank_is = rank-seen w.state (sight_a front here) x sees

    above : w.state.rank ≤ rank_of x
    above = subst (λ (i : ℕ). w.state.rank ≤ i) rank_is passing.above

    -- the first row that a unit is associated with lies further
    not_least : w.least ≡ k → ⊥
    not_least e = true≢false (sym (eq-eqb w.least k e) ∙ sym early-is ∙ passing.late)

    later-low : (own : Own) → (own.later ≡ length es)
        ⊎ ((p : ℕ) × (k < own.later) × ((side : Side) × (match_of own.later p k ∈ matches side es))) → suc k ≤ own.later
    later-low o (inl z) = omega arith
    later-low o (inr (p, l, m)) = l

    later : (side : Side) (o : Own) → OwnIs side es (length es) k o → (o.later ≡ length es)
        ⊎ ((p : ℕ) × (k < o.later) × ((given : Side) × (match_of o.later p k ∈ matches given es)))
    later side o i = which i.later_is
      where
        which : (o.later ≡ length es) ⊎ ((p : ℕ) × (k < o.later) × (match_of o.later p k ∈ matches side es)) → (o.later ≡ length es)
            ⊎ ((p : ℕ) × (k < o.later) × ((given : Side) × (match_of o.later p k ∈ matches given es)))
        which (inl z) = inl z
        which (inr (p, l, m)) = inr (p, l, (side, m))

    abbrev three : ℕ
    three = min w.least (min layout.later logical.later)

    three-low : suc k ≤ three
    three-low =
        let i = later-low layout (later Layout layout a) in
        let j = later-low logical (later Logical logical b) in
        let h = st.least_low in
        let g : k < w.least = further (not_least) h in
        omega arith
      where
        further : (w.least ≡ k → ⊥) → k ≤ w.least → k < w.least
        further differ l = cases (ltb k w.least) (λ u. ltb-true k w.least u) (λ u. let m = ltb-false k w.least u in absurd (differ (omega arith)))

    three-few : (three ≤ w.least) × (three ≤ layout.later) × (three ≤ logical.later)
    three-few = (omega arith, omega arith, omega arith)

    no_less : (side : Side) (row' p u : ℕ) → u < suc k → match_of row' p u ∈ matches side es → (row' < suc k) ⊎ (three ≤ row')
    no_less side r p u l m = cases (eqb u k) (λ e. now (eqb-true u k e)) (λ e. let d = eqb-false u k e in before-it (st.no_less side r p u (less d) m))
      where
        less : (u ≡ k → ⊥) → u < k
        less d = cases (ltb u k) (λ e. ltb-true u k e) (λ e. let h = ltb-false u k e in absurd (d (omega arith)))

        before-it : (r < k) ⊎ (w.least ≤ r) → (r < suc k) ⊎ (three ≤ r)
        before-it (inl h) = inl (omega arith)
        before-it (inr h) = let f = three-few.0 in inr (omega arith)

        by_layout : (r < k) ⊎ (layout.later ≤ r) → (r < suc k) ⊎ (three ≤ r)
        by_layout (inl h) = inl (omega arith)
        by_layout (inr h) = let f = three-few.1 in inr (omega arith)

        by-logical : (r < k) ⊎ (logical.later ≤ r) → (r < suc k) ⊎ (three ≤ r)
        by-logical (inl h) = inl (omega arith)
        by-logical (inr h) = let f = three-few.2 in inr (omega arith)

        of-side : (given : Side) → match_of r p k ∈ matches given es → (r < suc k) ⊎ (three ≤ r)
        of-side Layout i = by_layout (a.no_later r p i)
        of-side Logical i = by-logical (b.no_later r p i)

        now : u ≡ k → (r < suc k) ⊎ (three ≤ r)
        now e = of-side side (subst (λ (i : ℕ). match_of r p i ∈ matches side es) e m)

    abbrev Least : ℕ → Type 0
    Least least = (least ≡ length es) ⊎ ((side : Side) × (p : ℕ) × (u : ℕ) × (u < suc k) × (match_of least p u ∈ matches side es))

    least_is : Least three
    least_is = of_three (min-is w.least (min layout.later logical.later)) (min-is layout.later logical.later)
      where
        old : (w.least ≡ length es) ⊎ ((side : Side) × (p : ℕ) × (u : ℕ) × (u < k) × (match_of w.least p u ∈ matches side es)) → Least w.least
        old (inl z) = inl z
        old (inr (side, p, u, l, m)) = inr (side, p, u, omega arith, m)

        new : (o : Own) → (o.later ≡ length es) ⊎ ((p : ℕ) × (k < o.later)
            × ((given : Side) × (match_of o.later p k ∈ matches given es))) → Least o.later
        new o (inl z) = inl z
        new o (inr (p, l, (side, m))) = inr (side, p, k, omega arith, m)

        of_three : (three ≡ w.least) ⊎ (three ≡ min layout.later logical.later) → (min layout.later logical.later ≡ layout.later)
            ⊎ (min layout.later logical.later ≡ logical.later)
            → Least three
        of_three (inl p) q = subst Least (sym p) (old st.least_is)
        of_three (inr p) (inl q) = subst Least (sym (p ∙ q)) (new layout (later Layout layout a))
        of_three (inr p) (inr q) = subst Least (sym (p ∙ q)) (new logical (later Logical logical b))

    layouts_is : any (map (λ e. eqb e.kind 2) (take (suc k) es)) ≡ has_layouts w.layouts x.kind
    unfolding has_layouts
    layouts_is =
        ap (λ (xs : List Element). any (map (λ e. eqb e.kind 2) xs)) (take-suc es k no_element below) ∙ any-more (λ e. eqb e.kind 2) front here
        ∙ rw (st.layouts_is, seen.kind)

    -- an ordered unit is a unit, of the rank of those of objects
    ordered-unit : eqb own.kind by ≡ true → here.kind ≡ unit_kind
    ordered-unit u =
        let (l, m, e) = record_of es aside (length es) k below turns.side by turns.on_side own turns.own_is w.row
        w.state.ordered row_low base_low u in
        unit-kind es turns.side own.row own.portion k m

    ordered-place : eqb own.kind by ≡ true → specific_rank ≤ rank_of x
    ordered-place u =
        let many : ltb 0 (represents_of (listed_in object_kinds front) here) ≡ true = ap (ltb 0) (sees.specific ∙ seen.specific)
        ∙ ordered-counts w.layouts layout logical u in
        let is : rank_seen (sight_a front here) ≡ unit_rank (ltb 0 (represents_of (listed_in class_kinds front) here)) true = rw (ordered-unit u, many) in
        let low : unit_rank (ltb 0 (represents_of (listed_in class_kinds front) here)) true < end_a = subst (λ (i : ℕ). i < end_a) is passing.tabled in
        subst (λ (i : ℕ). specific_rank ≤ i) (sym is ∙ rank_is) (specific-place (ltb 0 (represents_of (listed_in class_kinds front) here)) low)

    ordered_rank : (row ≡ 0) ⊎ (specific_rank ≤ rank_of x)
    ordered_rank =
        cases (eqb own.kind by) (λ u. inr (ordered-place u))
        (λ u. stays (row_is ∙ row_stays own by w.row u) st.ordered_rank)
      where
        stays : row ≡ w.row → (w.row ≡ 0) ⊎ (specific_rank ≤ w.state.rank) → (row ≡ 0) ⊎ (specific_rank ≤ rank_of x)
        stays e (inl z) = inl (e ∙ z)
        stays e (inr l) = let h = above in inr (omega arith)

    -- where a layout object stands, nothing ordered has been
    layout-rank : x.kind ≡ 2 → rank_of x ≡ 6
    unfolding rank_of rank_in
    layout-rank e = rw e

    object-row : x.kind ≡ 2 → row ≡ 0
    object-row e = which ordered_rank
      where
        which : (row ≡ 0) ⊎ (specific_rank ≤ rank_of x) → row ≡ 0
        which (inl z) = z
        which (inr l) = let r = layout-rank e in absurd (omega arith)

    base-again : base ≡ before (kind_for (has_layouts w.layouts x.kind)) es row
    unfolding has_layouts
    base-again =
        cases (eqb x.kind 2)
        (λ u. let z = object-row (eqb-true x.kind 2 u) in
        let none : (i : ℕ) → before i es row ≡ 0 = λ i. ap (before i es) z ∙ before-none i es in
        base_is ∙ none by ∙ sym (none (kind_for (has_layouts w.layouts x.kind))))
        (λ u. let same : w.layouts || eqb x.kind 2 ≡ w.layouts = rw u (or_nothing w.layouts) in base_is
        ∙ ap (λ (i : Bool). before (kind_for i) es row) (sym same))
      where
        or_nothing : (c : Bool) → c || false ≡ c
        or_nothing true = refl
        or_nothing false = refl

    turn-true : x.turn ≡ true
    turn-true = sym sees.turn ∙ passing.in_slot

    base-under : base ≤ w.state.ordered + one x.ordered
    base-under =
        let n = base-next es aside (length es) k below turns.side by turns.on_side own turns.own_is w.row
        w.state.ordered row_low base_low (sym turn-same ∙ turn-true) in
        subst (λ (c : Bool). base ≤ w.state.ordered + one c) (sym seen.ordered) (omega (arith, to_is))

    -- where it may, the next is awaited
    pub goes-here : Standing es (suc k) v
    unfolding walk_for next
    goes-here =
        record {
          goes_on = from-here ∙ rw t;
          least_low = three-low;
          no_less = no_less;
          least_is = least_is;
          layouts_is = layouts_is;
          base_is = base-again;
          base_low = base-under;
          ordered_rank = ordered_rank;
        }
