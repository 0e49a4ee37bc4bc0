-- Class A: in a run in order a unit stands after all whose portions it represents, so a front sees its units as the whole does, and passes.
use mathlib.Core.Path.{◌≡◌, refl, ap, sym, ◌∙◌, subst}
use mathlib.Core.Logic.{◌⊎◌, inl, inr}
use mathlib.Core.Bool.{Bool, true, false, not, ◌&&◌, false≢true, true≢false}
use mathlib.Core.List.Memᴰ
use mathlib.Core.List.{List, [], ◌∷◌, ◌++◌, map, append-nil}
use Prim.Native.Nat.{ℕ, ◌<◌, ◌≤◌}
use native.Mathlib.Omega.{arith}
use lib.Dec.{eqb, leb, ltb}
use borrow.Author.Tests.{eqb-true, eqb-false, eq-eqb, ne_eqb, not-true, ltb-true, lt-ltb, le-leb}
use borrow.Table.Steps.{cases}
use Rattle.headers.specs.Head.{is_in}
use Rattle.portions.specs.Portions.{all, any}
use Rattle.elements.specs.Judge.{Element}
use Rattle.order.specs.Represents.{◌∈◌, Ascending, named, represents, is_associated, is_represented, all_represented, profile_kind, ProfileFirst, Listed}
use Rattle.order.specs.Represents.{everything, keep}
use Rattle.order.specs.ClassA.{end_a, object_kinds, represents_some, rank_a, ordered_by, listed_of, units_of, in_step, InOrderA}
use Rattle.order.specs.declared.Class.TheVariants.{A}
use Rattle.order.specs.Begins.{Begins}
use Rattle.order.specs.ClausesA.{profile_first, ascends, awaited, may_come, placed_a, begins_a, ordered_a}
use Rattle.order.proofs.Tests.{both, all_in, all_of, any_of, any-in, any_none}
use Rattle.order.proofs.Representing.{represents-unit, represents-named, associated-of, associated-unit, represented-told, represented-of}
use Rattle.order.proofs.Representing.{all-represented-told}
use Rattle.order.proofs.Lacking.{keep-in, everything-in}
use Rattle.order.proofs.Keeping.{keep_append, keep-none, keep_same, ascending-left, ascending-cross, ascends-of, ascends-told, everything-append}
use Rattle.order.proofs.RanksA.{some-told, some_of, owner, object-rank, awaited-object, owned-rank, owner-below, rank_same}

-- what the tests say
profile-of : (es : List Element) → ProfileFirst es → profile_first es ≡ true
unfolding profile_first
profile-of [] p = absurd p
profile-of (x ∷ xs) p =
    rw (eq-eqb x.kind profile_kind p.0)
    (all_of (λ (y : Element). not (eqb y.kind profile_kind)) xs (λ y m. rw (ne_eqb y.kind profile_kind (p.1 y m))))

profile-told : (es : List Element) → profile_first es ≡ true → ProfileFirst es
unfolding profile_first
profile-told [] t = absurd (false≢true t)
profile-told (x ∷ xs) t =
    let r = both (eqb x.kind profile_kind) (all (map (λ (y : Element). not (eqb y.kind profile_kind)) xs)) t in (
      eqb-true x.kind profile_kind r.0,
      λ y m. eqb-false y.kind profile_kind (not-true (eqb y.kind profile_kind) (all_in (λ (z : Element). not (eqb z.kind profile_kind)) xs r.1 y m)),
    )

abbrev pub steps : List Element → Bool
steps es = in_step (listed_of (ordered_by es) es) (units_of (ordered_by es) es)

pub record Placed (es : List Element) : Type 0 where
  pub profile : ProfileFirst es
  pub tabled : (e : Element) → e ∈ es → rank_a es e < end_a
  pub ascending : Ascending (rank_a es) es
  pub all_in_step : steps es ≡ true

pub placed_of : (es : List Element) → Placed es → placed_a es ≡ true
unfolding placed_a
placed_of es p =
    rw (
      profile-of es p.profile,
      all_of (λ (e : Element). ltb (rank_a es e) end_a) es (λ e m. lt-ltb (rank_a es e) end_a (p.tabled e m)),
      ascends-of (rank_a es) es p.ascending,
      p.all_in_step,
    )

pub placed-told : (es : List Element) → placed_a es ≡ true → Placed es
unfolding placed_a
placed-told es t =
    let tests = all (map (λ (e : Element). ltb (rank_a es e) end_a) es) in
    let a = both (profile_first es) (tests && (ascends (rank_a es) es && (steps es && true))) t in
    let b = both tests (ascends (rank_a es) es && (steps es && true)) a.1 in
    let c = both (ascends (rank_a es) es) (steps es && true) b.1 in
    record {
      profile = profile-told es a.0;
      tabled = λ e m. ltb-true (rank_a es e) end_a (all_in (λ (x : Element). ltb (rank_a es x) end_a) es b.0 e m);
      ascending = ascends-told (rank_a es) es c.0;
      all_in_step = (both (steps es) true c.1).0;
    }

pub ordered_of : (es : List Element) → InOrderA es → ordered_a es ≡ true
unfolding ordered_a
ordered_of es o =
    rw (placed_of es (record {
      profile = o.profile;
      tabled = o.tabled;
      ascending = o.ascending;
      all_in_step = o.all_in_step;
    })) (all_of (all_represented es) es o.whole)

pub ordered-told : (es : List Element) → ordered_a es ≡ true → InOrderA es
unfolding ordered_a
ordered-told es t =
    let r = both (placed_a es) (all (map (all_represented es) es)) t in
    let p = placed-told es r.0 in
    record { profile = p.profile; tabled = p.tabled; ascending = p.ascending; all_in_step = p.all_in_step; whole = all_in (all_represented es) es r.1 }

-- the kind by which units are ordered is of objects
pub of-kind : (e : Element) (kind : ℕ) → is_in e.kind (kind ∷ []) ≡ true → e.kind ≡ kind
of-kind e kind t = cases (eqb e.kind kind) (λ u. eqb-true e.kind kind u) (λ u. absurd (false≢true (rw u at t)))

pub kind-of : (e : Element) (kind : ℕ) → e.kind ≡ kind → is_in e.kind (kind ∷ []) ≡ true
kind-of e kind p = rw (eq-eqb e.kind kind p)

pub ordered-object : (es : List Element) (e : Element) → e.kind ≡ ordered_by es → is_in e.kind object_kinds ≡ true
unfolding ordered_by
ordered-object es e p = cases (any (map (λ (d : Element). eqb d.kind 2) es)) (λ t. rw (rw t at p)) (λ t. rw (rw t at p))

pub ordered_same : (xs ys : List Element) → ((e : Element) → e ∈ ys → e.kind ≡ 2 → ⊥) → ordered_by (xs ++ ys) ≡ ordered_by xs
unfolding ordered_by
ordered_same xs ys n =
    let two : Element → Bool = λ e. eqb e.kind 2 in
    cases (any (map two xs))
    (λ t. let r = any-in two xs t in rw (t, any_of two (xs ++ ys) r.0 (Memᴰ.append_left ys r.1) r.2))
    (λ t. rw (t, any_none two (xs ++ ys) (λ e m u. step t e u (Memᴰ.append_cases xs m))))
  where
    step : any (map (λ (e : Element). eqb e.kind 2) xs) ≡ false → (e : Element) → eqb e.kind 2 ≡ true → (e ∈ xs) ⊎ (e ∈ ys) → ⊥
    step t e u (inl m) = true≢false (sym (any_of (λ (e : Element). eqb e.kind 2) xs e m u) ∙ t)
    step t e u (inr m) = n e m (eqb-true e.kind 2 u)

pub step_left : (ls : List Listed) (us vs : List Element) → in_step ls (us ++ vs) ≡ true → in_step ls us ≡ true
unfolding in_step
step_left ls [] vs t = refl
step_left [] (u ∷ us) vs t = t
step_left (l ∷ ls) (u ∷ us) vs t =
    let r = both (represents l.by l.portion u) (in_step ls (us ++ vs)) t in
    rw r.0 (step_left ls us vs r.1)

-- a front of what is in order
module _ (front more : List Element) (o : InOrderA (front ++ more)) where
  abbrev pub whole : List Element
  whole = front ++ more

  left : (x : Element) → x ∈ front → x ∈ whole
  left x m = Memᴰ.append_left more m

  right : (x : Element) → x ∈ more → x ∈ whole
  right x m = Memᴰ.append_right front m

  crosses : (x y : Element) → x ∈ front → y ∈ more → rank_a whole x ≤ rank_a whole y
  crosses = ascending-cross (rank_a whole) front more o.ascending

  -- no owner of a unit stands after it
  pub owner-before : (u e : Element) → u ∈ front → e ∈ more → is_associated e u ≡ true → ⊥
  owner-before u e m n t =
      let r = owned-rank whole u (associated-unit e u t) (o.tabled u (left u m)) e (right e n) t in
      let b = owner-below whole e (owner e u t) in
      let a = crosses u e m n in
      omega arith

  some_same : (u : Element) → u ∈ front → (kinds : List ℕ) → represents_some kinds whole u ≡ represents_some kinds front u
  some_same u m kinds = cases (represents_some kinds front u) (λ t. up t ∙ sym t) (λ t. down t ∙ sym t)
    where
      up : represents_some kinds front u ≡ true → represents_some kinds whole u ≡ true
      up t = let (e, n, k, w) = some-told kinds front u t in some_of kinds whole u e (left e n) k w

      where-owner : represents_some kinds front u ≡ false → (e : Element) → is_in e.kind kinds ≡ true → is_associated e u ≡ true → (e ∈ front) ⊎ (e ∈ more) → ⊥
      where-owner t e k w (inl n) = true≢false (sym (some_of kinds front u e n k w) ∙ t)
      where-owner t e k w (inr n) = owner-before u e m n w

      down : represents_some kinds front u ≡ false → represents_some kinds whole u ≡ false
      down t = cases (represents_some kinds whole u)
          (λ s. let (e, n, k, w) = some-told kinds whole u s in absurd (where-owner t e k w (Memᴰ.append_cases front n))) (λ s. s)

  same_rank : (x : Element) → x ∈ front → rank_a whole x ≡ rank_a front x
  same_rank x m = rank_same whole front x (some_same x m)

  -- its ordered units are in step: if there is one, no object comes after
  module _ (u : Element) (there : u ∈ front) (representing : represents_some (ordered_by front ∷ []) front u ≡ true) where
    no_object : (d : Element) → d ∈ more → is_in d.kind object_kinds ≡ true → ⊥
    no_object d n k =
        let (e, m, i, w) = some-told (ordered_by front ∷ []) front u representing in
        let obj = ordered-object front e (of-kind e (ordered_by front) i) in
        let r = owned-rank whole u (associated-unit e u w) (o.tabled u (left u there)) e (left e m) w in
        let s = awaited-object e obj in
        let a = crosses u d there n in
        let b = object-rank whole d k in
        omega arith

    same-order : ordered_by whole ≡ ordered_by front
    same-order = ordered_same front more (λ e m k. no_object e m (rw k))

    abbrev by : ℕ
    by = ordered_by front

    same-listed : listed_of by whole ≡ listed_of by front
    unfolding listed_of
    same-listed =
        let test : Listed → Bool = λ l. eqb l.by.kind by in
        ap (keep test) (everything-append front more) ∙ keep_append test (everything front) (everything more)
        ∙ ap (λ (ls : List Listed). keep test (everything front) ++ ls)
        (keep-none test (everything more) (λ l m. cases (eqb l.by.kind by)
        (λ t. absurd (no_object l.by (everything-in more l m).0 (ordered-object front l.by (eqb-true l.by.kind by t)))) (λ t. t)))
        ∙ append-nil (keep test (everything front))

    same_units : units_of by whole ≡ units_of by front ++ keep (represents_some (by ∷ []) whole) more
    same_units =
        keep_append (represents_some (by ∷ []) whole) front more
        ∙ ap (λ (us : List Element). us ++ keep (represents_some (by ∷ []) whole) more)
        (keep_same (represents_some (by ∷ []) whole) (represents_some (by ∷ []) front) front (λ x m. some_same x m (by ∷ [])))

    steps_front : steps front ≡ true
    steps_front =
        let a : in_step (listed_of by whole) (units_of by whole) ≡ true = subst
        (λ (k : ℕ). in_step (listed_of k whole) (units_of k whole) ≡ true) same-order o.all_in_step in
        let b : in_step (listed_of by front) (units_of by front ++ keep (represents_some (by ∷ []) whole) more) ≡ true =
        subst (λ (us : List Element). in_step (listed_of by front) us ≡ true) same_units
        (subst (λ (ls : List Listed). in_step ls (units_of by whole) ≡ true) same-listed a) in
        step_left (listed_of by front) (units_of by front) (keep (represents_some (by ∷ []) whole) more) b

  steps-any : (us : List Element) → units_of (ordered_by front) front ≡ us → steps front ≡ true
  unfolding in_step
  steps-any [] e = rw e
  steps-any (u ∷ us) e =
      let r = keep-in (represents_some (ordered_by front ∷ []) front) front u (subst (λ (l : List Element). u ∈ l) (sym e) (Memᴰ.head refl)) in
      steps_front u r.0 r.1

  profile-front : (f m : List Element) → ProfileFirst (f ++ m) → (x : Element) → x ∈ f → ProfileFirst f
  profile-front [] m p x n = absurd (Memᴰ.not-nil n)
  profile-front (y ∷ f) m p x n = (p.0, λ z k. p.1 z (Memᴰ.append_left m k))

  placed-front : (x : Element) → x ∈ front → Placed front
  placed-front x m =
      record {
        profile = profile-front front more o.profile x m;
        tabled = λ e n. subst (λ (k : ℕ). k < end_a) (same_rank e n) (o.tabled e (left e n));
        ascending = ascending-left (rank_a whole) (rank_a front) front more same_rank o.ascending;
        all_in_step = steps-any (units_of (ordered_by front) front) refl;
      }

  -- what is missing is represented later, by a unit after which nothing of the front stands
  may-come : (e : Element) → e ∈ front → may_come front e ≡ true
  unfolding may_come all_represented
  may-come e m =
      cases (all (map (is_represented front e) e.portions)) (λ t. rw t)
      (λ t. let (p, n, u) = some-false e.portions t in
      let (w, k, a) = represented-told whole e p (all-represented-told whole e (o.whole e (left e m)) p n) in
      rw t (later p n u w a (Memᴰ.append_cases front k)))
    where
      some-false : (ps : List (List ℕ)) → all (map (is_represented front e) ps) ≡ false → (p : List ℕ) × (p ∈ ps) × (is_represented front e p ≡ false)
      some-false [] t = absurd (true≢false t)
      some-false (p ∷ ps) t =
          cases (is_represented front e p)
          (λ u. let (q, n, v) = some-false ps (rw u at t) in (q, Memᴰ.tail n, v))
          (λ u. (p, Memᴰ.head refl, u))

      later : (p : List ℕ) → p ∈ e.portions → is_represented front e p ≡ false → (w : Element) → represents e p w ≡ true → (w ∈ front) ⊎ (w ∈ more)
          → named e && all (map (λ (x : Element). leb (rank_a front x) (awaited e)) front) ≡ true
      later p n u w a (inl k) = absurd (true≢false (sym (represented-of front e p w k a) ∙ u))
      later p n u w a (inr k) =
          let r : rank_a whole w ≡ awaited e = owned-rank whole w (represents-unit e p w a) (o.tabled w (right w k)) e (left e m) (associated-of e w p n a) in
          rw (represents-named e p w a)
          (all_of (λ (x : Element). leb (rank_a front x) (awaited e)) front
          (λ x i. let c = crosses x w i k in let s = same_rank x i in le-leb (rank_a front x) (awaited e) (omega arith)))

pub begins-told : (front : List Element) → Begins A front → begins_a front ≡ true
unfolding begins_a
begins-told [] b = refl
begins-told (x ∷ xs) b =
    rw (placed_of (x ∷ xs) (placed-front (x ∷ xs) b.more b.in_order x (Memᴰ.head refl)))
    (all_of (may_come (x ∷ xs)) (x ∷ xs) (may-come (x ∷ xs) b.more b.in_order))
