-- Class A: the tests of the pass hold of one more element exactly when it, after a front that begins, begins a run; and the state then
-- stands where the definition does. A unit that was there before its element is told by `early`, so ranks stay as they were; what is open is
-- counted.
use mathlib.Core.Path.{◌≡◌, refl, ap, sym, ◌∙◌, subst}
use mathlib.Core.Logic.{◌⊎◌, inl, inr}
use mathlib.Core.Bool.{Bool, true, false, cond, not, ◌&&◌, ◌||◌, true≢false, or-true}
use mathlib.Core.List.Memᴰ
use mathlib.Core.List.{List, [], ◌∷◌, ◌++◌, map, append_assoc, append-nil}
use Prim.Native.Nat.{ℕ, suc, ◌+◌, ◌-◌, ◌<◌, ◌≤◌}
use native.Mathlib.Omega.{arith}
use lib.Dec.{eqb, leb}
use lib.ListN.{length, length-append, length-map}
use borrow.Author.Tests.{eqb-true, eqb-false, eq-eqb, ne_eqb, leb-true, leb-false, le-leb}
use borrow.Table.Steps.{cases}
use Rattle.headers.specs.Head.{is_in}
use Rattle.portions.specs.Portions.{all, any}
use Rattle.elements.specs.Judge.{Element, clash}
use Rattle.reading.specs.Match.{unit_kind}
use Rattle.order.specs.Represents.{◌∈◌, Ascending, named, represents, is_associated, is_represented, all_represented, profile_kind, ProfileFirst}
use Rattle.order.specs.Represents.{LimitsAside, Listed, listing_of, everything, keep}
use Rattle.order.specs.ClassA.{end_a, generic_rank, specific_rank, class_kinds, object_kinds, represents_some, rank_a, ordered_by, listed_of, units_of, in_step}
use Rattle.order.specs.ClassA.{InOrderA}
use Rattle.order.specs.ClausesA.{awaited, may_come, placed_a, begins_a}
use Rattle.order.specs.declared.Class.TheVariants.{A}
use Rattle.order.specs.Begins.{Begins}
use Rattle.order.specs.PassA.{listed_in, represents_of, SightA, sight_a, StateA, rank_seen, tests_a, count_if, next_a}
use Rattle.order.proofs.Tests.{both, either, all_in, all_of, any_of, any-in, any_none, all-not}
use Rattle.order.proofs.Representing.{represents-unit, associated-told, associated-of, associated-unit, represented-told, represented-of}
use Rattle.order.proofs.Representing.{represented-more, all-represented-told}
use Rattle.order.proofs.Lacking.{keep-in, keep-of, everything-in, everything-of, Missing, lister-kind}
use Rattle.order.proofs.CutB.{unit-lists-none}
use Rattle.order.proofs.OrderB.{no-clash-split}
use Rattle.order.proofs.Keeping.{keep_append, keep-none, keep_all, keep_same, ascending-left, ascending-cross, ascending-append, everything-append}
use Rattle.order.proofs.Keeping.{everything-none}
use Rattle.order.proofs.RanksA.{some-told, some_of, Owner, class, object, lister-owner, object-rank, awaited-class, awaited-object, owned-rank}
use Rattle.order.proofs.RanksA.{owner-below, rank_same}
use Rattle.order.proofs.FrontA.{steps, Placed, placed_of, placed-told, of-kind, kind-of, ordered-object, ordered_same, owner-before}
use Rattle.order.proofs.OrderA.{awaits, begins-of}
use Rattle.order.proofs.Counting.{represent-clash}
use Rattle.order.proofs.Place.{aside-left}
use Rattle.order.proofs.SightsA.{no_member, member-some, keep-split, keep_one, listed-in-told, some-count, slot-none, slot-some, slot_step, step-more}
use Rattle.order.proofs.SightsA.{is_open, open_in, open_of, open_told, empty-step, begins-parts, Holds, Passing, passing-told, passing-of}
use Rattle.order.proofs.SightsA.{represented-next, not-or}

-- after a front that begins, one element
module _ (front : List Element) (x : Element) (aside : LimitsAside (front ++ x ∷ [])) (placed : Placed front)
    (may : (e : Element) → e ∈ front → may_come front e ≡ true) where
  abbrev longer : List Element
  longer = front ++ x ∷ []

  abbrev seen : SightA
  seen = sight_a front x

  before : LimitsAside front
  before = aside-left front (x ∷ []) aside

  x-in : x ∈ longer
  x-in = Memᴰ.append_right front (Memᴰ.head refl)

  in-longer : (y : Element) → y ∈ front → y ∈ longer
  in-longer y m = Memᴰ.append_left (x ∷ []) m

  front-or : {P : Element → Type 0} → ((y : Element) → y ∈ front → P y) → P x → (y : Element) → y ∈ longer → P y
  front-or {P} f g y m = step (Memᴰ.append_cases front m)
    where
      step : (y ∈ front) ⊎ (y ∈ x ∷ []) → P y
      step (inl n) = f y n
      step (inr n) = subst P (sym (Memᴰ.eq_of_singleton n)) g

  unclashing : (u : Element) → u ∈ front → clash u x ≡ false
  unclashing u m = no-clash-split front (x ∷ []) aside.apart u x m (Memᴰ.head refl)

  -- no portion of it is represented before it
  module _ (late : (u : Element) → u ∈ front → is_associated x u ≡ true → ⊥) where
    associated-none : (u : Element) → u ∈ longer → is_associated x u ≡ true → ⊥
    associated-none = front-or late (λ t. let (p, m, a) = associated-told x x t in unit-lists-none x (aside.fit x x-in) (associated-unit x x t) p m)

    some_next : (kinds : List ℕ) (y : Element) → y ∈ longer → represents_some kinds longer y ≡ represents_some kinds front y
    some_next kinds y m = cases (represents_some kinds front y) (λ t. up t ∙ sym t) (λ t. down t ∙ sym t)
      where
        up : represents_some kinds front y ≡ true → represents_some kinds longer y ≡ true
        up t = let (e, n, k, w) = some-told kinds front y t in some_of kinds longer y e (in-longer e n) k w

        down : represents_some kinds front y ≡ false → represents_some kinds longer y ≡ false
        down t =
            cases (represents_some kinds longer y)
            (λ s. let (e, n, k, w) = some-told kinds longer y s in
            absurd (front-or {P = λ e. is_in e.kind kinds ≡ true → is_associated e y ≡ true → ⊥}
            (λ d i k w. true≢false (sym (some_of kinds front y d i k w) ∙ t)) (λ k w. associated-none y m w) e n k w)) (λ s. s)

    rank-next : (y : Element) → y ∈ longer → rank_a longer y ≡ rank_a front y
    rank-next y m = rank_same longer front y (λ kinds. some_next kinds y m)

  rank-seen : rank_a front x ≡ rank_seen seen
  unfolding rank_a
  rank-seen = rw (some-count class_kinds front x, some-count object_kinds front x)

  -- the units, and what is listed, with one element more
  some-unit : (kinds : List ℕ) (y : Element) → represents_some kinds front y ≡ true → y.kind ≡ unit_kind
  some-unit kinds y t = let (e, m, k, o) = some-told kinds front y t in associated-unit e y o

  abbrev kind_a : ℕ
  kind_a = ordered_by front

  kind-listed : (kind : ℕ) (l : Listed) → l ∈ listed_of kind front → (l.by.kind ≡ kind) × (l.by ∈ front) × (l.portion ∈ l.by.portions)
  unfolding listed_of
  kind-listed kind l m =
      let r = keep-in (λ (k : Listed). eqb k.by.kind kind) (everything front) l m in
      let q = everything-in front l r.0 in
      (eqb-true l.by.kind kind r.1, q.0, q.1)

  listed-kind : (kind : ℕ) (e : Element) (p : List ℕ) → e.kind ≡ kind → e ∈ front → p ∈ e.portions → ◌∈◌ {A = Listed}
      (record { by = e; portion = p }) (listed_of kind front)
  unfolding listed_of
  listed-kind kind e p k m n = keep-of (λ (l : Listed). eqb l.by.kind kind) (everything front) (record { by = e; portion = p })
      (everything-of front e p m n) (eq-eqb e.kind kind k)

  slot-zero : represents_some (kind_a ∷ []) front x ≡ false → seen.slot ≡ 0
  slot-zero t =
      slot-none 0 (listed_of kind_a front) x
      (λ l m a. let (k, i, j) = kind-listed kind_a l m in
      true≢false (sym (some_of (kind_a ∷ []) front x l.by i (kind-of l.by kind_a k) (associated-of l.by x l.portion j a)) ∙ t))

  slot-not : represents_some (kind_a ∷ []) front x ≡ true → seen.slot ≡ 0 → ⊥
  slot-not t z =
      let (e, m, k, o) = some-told (kind_a ∷ []) front x t in
      let (p, n, a) = associated-told e x o in
      slot-some 0 (listed_of kind_a front) x (record { by = e; portion = p }) (listed-kind kind_a e p (of-kind e kind_a k) m n) a z

  module _ (late : (u : Element) → u ∈ front → is_associated x u ≡ true → ⊥) where
    units-next : (kind : ℕ) → units_of kind longer ≡ units_of kind front ++ cond (represents_some (kind ∷ []) front x) (x ∷ []) []
    units-next kind =
        keep_append (represents_some (kind ∷ []) longer) front (x ∷ [])
        ∙ ap (λ (us : List Element). us ++ keep (represents_some (kind ∷ []) longer) (x ∷ []))
        (keep_same (represents_some (kind ∷ []) longer) (represents_some (kind ∷ []) front) front (λ y m. some_next late (kind ∷ []) y (in-longer y m)))
        ∙ ap (λ (us : List Element). units_of kind front ++ us) (keep_one (represents_some (kind ∷ []) longer) x
        ∙ ap (λ (b : Bool). cond b (x ∷ []) []) (some_next late (kind ∷ []) x x-in))

    listed_next : (kind : ℕ) → listed_of kind longer ≡ listed_of kind front ++ listed_of kind (x ∷ [])
    unfolding listed_of
    listed_next kind =
        ap (keep (λ l. eqb l.by.kind kind)) (everything-append front (x ∷ []))
        ∙ keep_append (λ l. eqb l.by.kind kind) (everything front) (everything (x ∷ []))

  -- by what units are ordered: as before, unless this is the first layout object
  data Ordering : Type 0 where
    as_before : ordered_by longer ≡ kind_a → Ordering
    first_layout : x.kind ≡ 2 → ((e : Element) → e ∈ front → e.kind ≡ 2 → ⊥) → ordered_by longer ≡ 2 → Ordering

  ordering : Ordering
  unfolding ordered_by
  ordering =
      cases (any (map two front))
      (λ t. let r = any-in two front t in as_before (rw (t, any_of two longer r.0 (in-longer r.0 r.1) r.2)))
      (λ t. cases (eqb x.kind 2)
      (λ u. first_layout (eqb-true x.kind 2 u) (λ e m k. true≢false (sym (any_of two front e m (eq-eqb e.kind 2 k))
      ∙ t)) (rw (any_of two longer x x-in u)))
      (λ u. as_before (ordered_same front (x ∷ []) (λ e m k. eqb-false x.kind 2 u (ap (λ (y : Element). y.kind) (sym (Memᴰ.eq_of_singleton m)) ∙ k)))))
    where
      two : Element → Bool
      two e = eqb e.kind 2

  no-units : ((e : Element) → e ∈ front → e.kind ≡ 2 → ⊥) → (y : Element) → represents_some (2 ∷ []) front y ≡ false
  no-units h y = cases (represents_some (2 ∷ []) front y) (λ t. let (e, m, k, o) = some-told (2 ∷ []) front y t in absurd (h e m (of-kind e 2 k))) (λ t. t)

  -- a unit lists nothing
  unit-bare : (kinds : List ℕ) → represents_some kinds front x ≡ true → x.portions ≡ []
  unit-bare kinds t = no_member x.portions (λ p m. unit-lists-none x (aside.fit x x-in) (some-unit kinds x t) p m)

  none-listed : x.portions ≡ [] → (kind : ℕ) → listed_of kind (x ∷ []) ≡ []
  unfolding listed_of keep
  none-listed e kind = ap (keep (λ l. eqb l.by.kind kind))
      (everything-none (x ∷ []) (λ d m. ap (λ (y : Element). y.portions) (Memᴰ.eq_of_singleton m) ∙ e))

  module _ (late : (u : Element) → u ∈ front → is_associated x u ≡ true → ⊥) where
    abbrev slots : Bool
    slots = eqb seen.slot 0 || eqb seen.slot (suc (length (units_of kind_a front)))

    steps-same : in_step (listed_of kind_a longer) (units_of kind_a longer) ≡ slots
    steps-same =
        ap (λ (ls : List Listed). in_step ls (units_of kind_a longer)) (listed_next late kind_a)
        ∙ ap (in_step (listed_of kind_a front ++ listed_of kind_a (x ∷ []))) (units-next late kind_a)
        ∙ cases (represents_some (kind_a ∷ []) front x) is_some is_none
      where
        is_some : represents_some (kind_a ∷ []) front x ≡ true
            → in_step (listed_of kind_a front ++ listed_of kind_a (x ∷ [])) (units_of kind_a front ++ cond (represents_some (kind_a ∷ []) front x) (x ∷ []) []) ≡ slots
        is_some t =
            let i : suc (0 + length (units_of kind_a front)) ≡ suc (length (units_of kind_a front)) = omega arith in
            rw (t, ne_eqb seen.slot 0 (slot-not t), none-listed (unit-bare (kind_a ∷ []) t) kind_a, append-nil (listed_of kind_a front), ← i)
            (slot_step 0 (listed_of kind_a front) (units_of kind_a front) x placed.all_in_step
            (λ u m. unclashing u (keep-in (represents_some (kind_a ∷ []) front) front u m).0))

        is_none : represents_some (kind_a ∷ []) front x ≡ false
            → in_step (listed_of kind_a front ++ listed_of kind_a (x ∷ [])) (units_of kind_a front ++ cond (represents_some (kind_a ∷ []) front x) (x ∷ []) []) ≡ slots
        is_none t =
            rw (t, slot-zero t, append-nil (units_of kind_a front))
            (step-more (listed_of kind_a front) (listed_of kind_a (x ∷ [])) (units_of kind_a front) placed.all_in_step)

    steps_next : steps longer ≡ slots
    steps_next = by_order ordering
      where
        by_order : Ordering → steps longer ≡ slots
        by_order (as_before e) = ap (λ (k : ℕ). in_step (listed_of k longer) (units_of k longer)) e ∙ steps-same
        by_order (first_layout k none e) =
            let not-unit : represents_some (kind_a ∷ []) front x ≡ false =
            cases (represents_some (kind_a ∷ []) front x) (λ t. let u = some-unit (kind_a ∷ []) x t in absurd (omega arith)) (λ t. t) in
            let units : units_of 2 longer ≡ [] =
            units-next late 2 ∙ ap (λ (b : Bool). units_of 2 front ++ cond b (x ∷ []) []) (no-units none x) ∙ append-nil (units_of 2 front)
            ∙ keep-none (represents_some (2 ∷ []) front) front (λ y m. no-units none y) in
            let a : steps longer ≡ true = ap (λ (k : ℕ). in_step (listed_of k longer) (units_of k longer)) e ∙ ap (in_step (listed_of 2 longer)) units
            ∙ empty-step (listed_of 2 longer) in
            a ∙ rw (slot-zero not-unit)

  -- a unit before it that represents a portion of it: no run begins so
  early-none : (u : Element) → u ∈ front → is_associated x u ≡ true → begins_a longer ≡ true → ⊥
  early-none u m o b =
      let c : Begins A longer = begins-of longer aside b in
      owner-before front (x ∷ c.more) (subst InOrderA (append_assoc front (x ∷ []) c.more) c.in_order) u x m (Memᴰ.head refl) o

  early-told : (seen.early ≡ false) → (u : Element) → u ∈ front → is_associated x u ≡ true → ⊥
  early-told t u m o = true≢false (sym (any_of (is_associated x) front u m o) ∙ t)

  early-of : ((u : Element) → u ∈ front → is_associated x u ≡ true → ⊥) → seen.early ≡ false
  early-of h = any_none (is_associated x) front h

  pub begins-placed : begins_a longer ≡ true → Placed longer × ((e : Element) → e ∈ longer → may_come longer e ≡ true)
  begins-placed b =
      let r = both (placed_a longer) (all (map (may_come longer) longer)) (sym (begins-parts front x) ∙ b) in
      (placed-told longer r.0, all_in (may_come longer) longer r.1)

  placed-begins : Placed longer → ((e : Element) → e ∈ longer → may_come longer e ≡ true) → begins_a longer ≡ true
  placed-begins p m = begins-parts front x ∙ rw (placed_of longer p) (all_of (may_come longer) longer m)

  -- what is open with one element more
  listed-in-next : (kinds : List ℕ) → listed_in kinds longer ≡ listed_in kinds front ++ listed_in kinds (x ∷ [])
  unfolding listed_in
  listed-in-next kinds =
      ap (keep (λ l. is_in l.by.kind kinds)) (everything-append front (x ∷ []))
      ∙ keep_append (λ l. is_in l.by.kind kinds) (everything front) (everything (x ∷ []))

  everything-one : everything (x ∷ []) ≡ listing_of x x.portions
  unfolding everything
  everything-one = append-nil (listing_of x x.portions)

  listed-one : (kinds : List ℕ) → length (listed_in kinds (x ∷ [])) ≡ count_if (is_in x.kind kinds) (length x.portions)
  unfolding listed_in
  listed-one kinds =
      ap (λ (ls : List Listed). length (keep (λ l. is_in l.by.kind kinds) ls)) everything-one
      ∙ cases (is_in x.kind kinds)
      (λ t. ap length (keep_all (λ (l : Listed). is_in l.by.kind kinds) (listing_of x x.portions) (λ l m. by-x l m ∙ t))
      ∙ length-map x.portions (λ (p : List ℕ). record { by = x; portion = p })
      ∙ sym (ap (λ (b : Bool). count_if b (length x.portions)) t))
      (λ t. ap length (keep-none (λ (l : Listed). is_in l.by.kind kinds) (listing_of x x.portions) (λ l m. by-x l m ∙ t))
      ∙ sym (ap (λ (b : Bool). count_if b (length x.portions)) t))
    where
      step : (l : Listed) → ((p : List ℕ) × (p ∈ x.portions) × (record { by = x; portion = p } ≡ l)) → is_in l.by.kind kinds ≡ is_in x.kind kinds
      step l (p, n, i) = ap (λ (k : Listed). is_in k.by.kind kinds) (sym i)

      by-x : (l : Listed) → l ∈ listing_of x x.portions → is_in l.by.kind kinds ≡ is_in x.kind kinds
      by-x l m = step l (Memᴰ.of_map (λ (p : List ℕ). record { by = x; portion = p }) x.portions m)

  open_next : ((u : Element) → u ∈ front → is_associated x u ≡ true → ⊥) → (kinds : List ℕ)
      → length (open_in kinds longer) ≡ length (open_in kinds front) - represents_of (listed_in kinds front) x + count_if (is_in x.kind kinds)
      (length x.portions)
  unfolding open_in represents_of
  open_next late kinds =
      let a : keep (is_open longer) (listed_in kinds longer) ≡ keep (is_open longer) (listed_in kinds front) ++ keep (is_open longer) (listed_in kinds (x ∷ [])) =
      ap (keep (is_open longer)) (listed-in-next kinds) ∙ keep_append (is_open longer) (listed_in kinds front) (listed_in kinds (x ∷ [])) in
      let b : keep (is_open longer) (listed_in kinds (x ∷ [])) ≡ listed_in kinds (x ∷ []) = keep_all (is_open longer) (listed_in kinds (x ∷ [])) new-open in
      let c = keep-split (is_open front) (λ (l : Listed). represents l.by l.portion x) (is_open longer) (listed_in kinds front)
      (λ l m. ap not (represented-next front x l.by l.portion) ∙ not-or (is_represented front l.by l.portion) (represents l.by l.portion x))
      (λ l m t. still_open l t) in
      let d : length (keep (is_open longer) (listed_in kinds longer)) ≡ length (keep (is_open longer) (listed_in kinds front)) + length (listed_in kinds (x ∷ [])) =
      ap length a ∙ length-append (keep (is_open longer) (listed_in kinds front)) (keep (is_open longer) (listed_in kinds (x ∷ [])))
      ∙ ap (λ (ls : List Listed). length (keep (is_open longer) (listed_in kinds front)) + length ls) b in
      let e = listed-one kinds in
      omega arith
    where
      still_open : (l : Listed) → represents l.by l.portion x ≡ true → is_open front l ≡ true
      still_open l t =
          cases (is_represented front l.by l.portion)
          (λ u. let (v, m, w) = represented-told front l.by l.portion u in absurd (true≢false (sym (represent-clash l.by l.portion v x w t)
          ∙ unclashing v m)))
          (λ u. rw u)

      new-open : (l : Listed) → l ∈ listed_in kinds (x ∷ []) → is_open longer l ≡ true
      new-open l m =
          let (k, i, j) = listed-in-told kinds (x ∷ []) l m in
          let by-x : l.by ≡ x = Memᴰ.eq_of_singleton i in
          cases (is_represented longer l.by l.portion)
          (λ u. let (v, n, w) = represented-told longer l.by l.portion u in
          absurd (associated-none late v n (ap (λ (e : Element). is_associated e v) (sym by-x) ∙ associated-of l.by v l.portion j w)))
          (λ u. rw u)

  -- what is missing after it was missing before it
  missing-before : (e : Element) → e ∈ front → (p : List ℕ) → p ∈ e.portions → is_represented longer e p ≡ false → Missing front
      (record { by = e; portion = p })
  missing-before e m p n u =
      record {
        by = m;
        listed = n;
        unrepresented = cases (is_represented front e p) (λ t. absurd (true≢false (sym (represented-more front longer e p in-longer t) ∙ u))) (λ t. t);
      }

  profile-more : (f : List Element) → ProfileFirst f → (x.kind ≡ profile_kind → ⊥) → ProfileFirst (f ++ x ∷ [])
  profile-more [] p n = absurd p
  profile-more (y ∷ f) p n = (p.0, λ z m. step z (Memᴰ.append_cases f m))
    where
      step : (z : Element) → (z ∈ f) ⊎ (z ∈ x ∷ []) → z.kind ≡ profile_kind → ⊥
      step z (inl i) = p.1 z i
      step z (inr i) = λ k. n (ap (λ (e : Element). e.kind) (sym (Memᴰ.eq_of_singleton i)) ∙ k)

  profile-other : (f : List Element) → ProfileFirst f → ProfileFirst (f ++ x ∷ []) → x.kind ≡ profile_kind → ⊥
  profile-other [] p q = absurd p
  profile-other (y ∷ f) p q = q.1 x (Memᴰ.append_right f (Memᴰ.head refl))

  module _ (s : StateA) (holds : Holds front s) where
    -- what passes the tests begins a run
    module _ (p : Passing s seen) where
      late : (u : Element) → u ∈ front → is_associated x u ≡ true → ⊥
      late = early-told p.late

      own-rank : rank_a longer x ≡ rank_seen seen
      own-rank = rank-next late x x-in ∙ rank-seen

      below-own : (y : Element) → y ∈ front → rank_a longer y ≤ rank_a longer x
      below-own y m = let a = rank-next late y (in-longer y m) in let b = holds.top y m in let c = p.above in omega (arith, own-rank)

      placed-next : Placed longer
      placed-next =
          record {
            profile = profile-more front placed.profile p.other;
            tabled = front-or {P = λ y. rank_a longer y < end_a}
                (λ y m. let a = rank-next late y (in-longer y m) in let b = placed.tabled y m in omega arith) (let a = p.tabled in omega (arith, own-rank));
            ascending = ascending-append (rank_a longer) front (x ∷ [])
                (ascending-left (rank_a front) (rank_a longer) front [] (λ y m. sym (rank-next late y (in-longer y m)))
                (subst (Ascending (rank_a front)) (sym (append-nil front)) placed.ascending))
                (λ y m. absurd (Memᴰ.not-nil m), tt)
                (λ y z m n. subst (λ (w : Element). rank_a longer y ≤ rank_a longer w) (sym (Memᴰ.eq_of_singleton n)) (below-own y m));
            all_in_step = steps_next late ∙ subst (λ (k : ℕ). eqb seen.slot 0 || eqb seen.slot (suc k) ≡ true) holds.ordered_is p.in_slot;
          }

      -- nothing stands above what an earlier element waits for
      waits : (l : Listed) → Missing front l → rank_a longer x ≤ awaited l.by
      waits l m = by-owner (lister-owner l.by (lister-kind l.by (before.fit l.by m.by) l.portion m.listed))
        where
          by-owner : Owner l.by → rank_a longer x ≤ awaited l.by
          by-owner (class k) = which (either (leb (rank_seen seen) generic_rank) (eqb s.generic 0) p.generic_done)
            where
              which : (leb (rank_seen seen) generic_rank ≡ true) ⊎ (eqb s.generic 0 ≡ true) → rank_a longer x ≤ awaited l.by
              which (inl t) = let a = leb-true (rank_seen seen) generic_rank t in let b = awaited-class l.by k in omega (arith, own-rank)
              which (inr t) = let a = eqb-true s.generic 0 t in let b = open_of class_kinds front l m k in let c = holds.generic_is in absurd (omega arith)
          by-owner (object k) = which (either (leb (rank_seen seen) specific_rank) (eqb s.specific 0) p.specific_done)
            where
              which : (leb (rank_seen seen) specific_rank ≡ true) ⊎ (eqb s.specific 0 ≡ true) → rank_a longer x ≤ awaited l.by
              which (inl t) = let a = leb-true (rank_seen seen) specific_rank t in let b = awaited-object l.by k in omega (arith, own-rank)
              which (inr t) = let a = eqb-true s.specific 0 t in let b = open_of object_kinds front l m k in let c = holds.specific_is in absurd
                  (omega arith)

      may-with : (e : Element) → (all_represented longer e ≡ false → (named e ≡ true)
          × ((y : Element) → y ∈ longer → rank_a longer y ≤ awaited e)) → may_come longer e ≡ true
      unfolding may_come
      may-with e h =
          cases (all_represented longer e) (λ t. rw t)
          (λ t. let (n, r) = h t in rw (t, n) (all_of (λ (y : Element). leb (rank_a longer y) (awaited e)) longer
          (λ y m. le-leb (rank_a longer y) (awaited e) (r y m))))

      unrepresented : (e : Element) → all_represented longer e ≡ false → (q : List ℕ) × (q ∈ e.portions) × (is_represented longer e q ≡ false)
      unfolding all_represented
      unrepresented e t = all-not (is_represented longer e) e.portions t

      may-front : (e : Element) → e ∈ front → may_come longer e ≡ true
      may-front e m =
          may-with e
          (λ t. let (q, n, u) = unrepresented e t in
          let miss = missing-before e m q n u in
          let (named-e, low) = awaits front before placed may (record { by = e; portion = q }) miss in (
            named-e,
            front-or {P = λ y. rank_a longer y ≤ awaited e} (λ y i. let a = rank-next late y (in-longer y i) in let b = low y i in omega arith)
                (waits (record { by = e; portion = q }) miss),
          ))

      may-own : may_come longer x ≡ true
      may-own =
          may-with x
          (λ t. let (q, n, u) = unrepresented x t in
          let b = owner-below longer x (lister-owner x (lister-kind x (aside.fit x x-in) q n)) in (
            has-name q n (either (eqb seen.lists 0) seen.named p.comes),
            front-or {P = λ y. rank_a longer y ≤ awaited x} (λ y i. let a = below-own y i in omega arith) (omega arith),
          ))
        where
          has-name : (q : List ℕ) → q ∈ x.portions → (eqb (length x.portions) 0 ≡ true) ⊎ (named x ≡ true) → named x ≡ true
          has-name q n (inl z) = let a = eqb-true (length x.portions) 0 z in let b = member-some x.portions q n in absurd (omega arith)
          has-name q n (inr t) = t

      passes-begins : begins_a longer ≡ true
      passes-begins = placed-begins placed-next (front-or {P = λ e. may_come longer e ≡ true} may-front may-own)

    -- and what begins a run passes the tests
    module _ (b : begins_a longer ≡ true) where
      late-then : (u : Element) → u ∈ front → is_associated x u ≡ true → ⊥
      late-then u m o = early-none u m o b

      placed-then : Placed longer
      placed-then = (begins-placed b).0

      may-then : (e : Element) → e ∈ longer → may_come longer e ≡ true
      may-then = (begins-placed b).1

      rank-then : rank_a longer x ≡ rank_seen seen
      rank-then = rank-next late-then x x-in ∙ rank-seen

      await-then : (l : Listed) → Missing front l → rank_a longer x ≤ awaited l.by
      await-then l m =
          cases (is_represented longer l.by l.portion)
          (λ t. let (u, i, a) = represented-told longer l.by l.portion t in
          represented-by u a (Memᴰ.append_cases front i))
          (λ t. (awaits longer aside placed-then may-then l (record { by = in-longer l.by m.by; listed = m.listed; unrepresented = t })).1 x x-in)
        where
          represented-by : (u : Element) → represents l.by l.portion u ≡ true → (u ∈ front) ⊎ (u ∈ x ∷ []) → rank_a longer x ≤ awaited l.by
          represented-by u a (inl i) = absurd (true≢false (sym (represented-of front l.by l.portion u i a) ∙ m.unrepresented))
          represented-by u a (inr i) =
              let w : represents l.by l.portion x ≡ true = ap (represents l.by l.portion) (sym (Memᴰ.eq_of_singleton i)) ∙ a in
              let r = owned-rank longer x (represents-unit l.by l.portion x w) (placed-then.tabled x x-in) l.by (in-longer l.by m.by)
              (associated-of l.by x l.portion m.listed w) in
              omega arith

      closed-then : (kinds : List ℕ) (rank left : ℕ) → left ≡ length (open_in kinds front) →
          ((l : Listed) → is_in l.by.kind kinds ≡ true → awaited l.by ≡ rank)
          → leb (rank_seen seen) rank || eqb left 0 ≡ true
      closed-then kinds rank left e h =
          cases (leb (rank_seen seen) rank) (λ t. rw t)
          (λ t. let high = leb-false (rank_seen seen) rank t in
          let none : open_in kinds front ≡ [] = no_member (open_in kinds front)
          (λ l m. let (miss, k) = open_told kinds front l m in let a = await-then l miss in let c = h l k in omega (arith, rank-then)) in
          let zero_left : left ≡ 0 = e ∙ ap length none in
          rw t (eq-eqb left 0 zero_left))

      comes-then : eqb seen.lists 0 || seen.named ≡ true
      unfolding may_come
      comes-then =
          cases (named x) (λ t. rw t (or-true (eqb (length x.portions) 0)))
          (λ t. let all-x : all_represented longer x ≡ true = which t (either (all_represented longer x) (named x
          && all (map (λ (y : Element). leb (rank_a longer y) (awaited x)) longer)) (may-then x x-in)) in
          let none : x.portions ≡ [] = no_member x.portions
          (λ q m. let (u, i, a) = represented-told longer x q (all-represented-told longer x all-x q m) in associated-none late-then u i
          (associated-of x u q m a)) in
          rw (eq-eqb (length x.portions) 0 (ap length none)))
        where
          which : named x ≡ false → (all_represented longer x ≡ true)
              ⊎ (named x && all (map (λ (y : Element). leb (rank_a longer y) (awaited x)) longer) ≡ true) → all_represented longer x ≡ true
          which t (inl a) = a
          which t (inr a) = absurd (true≢false (sym (both (named x) (all (map (λ (y : Element). leb (rank_a longer y) (awaited x)) longer)) a).0 ∙ t))

      begins-passes : Passing s seen
      begins-passes =
          record {
            late = early-of late-then;
            other = profile-other front placed.profile placed-then.profile;
            tabled = let a = placed-then.tabled x x-in in omega (arith, rank-then);
            above = let (y, m, r) = holds.reached in
                let a = ascending-cross (rank_a longer) front (x ∷ []) placed-then.ascending y x m (Memᴰ.head refl) in
                let c = rank-next late-then y (in-longer y m) in omega (arith, rank-then);
            generic_done = closed-then class_kinds generic_rank s.generic holds.generic_is (λ l k. awaited-class l.by k);
            specific_done = closed-then object_kinds specific_rank s.specific holds.specific_is (λ l k. awaited-object l.by k);
            comes = comes-then;
            in_slot = subst (λ (k : ℕ). eqb seen.slot 0 || eqb seen.slot (suc k) ≡ true) (sym holds.ordered_is) (sym (steps_next late-then)
                ∙ placed-then.all_in_step);
          }

    -- the tests say whether it begins a run
    pub tests-exactly : all (tests_a s seen) ≡ begins_a longer
    tests-exactly =
        cases (all (tests_a s seen)) (λ t. t ∙ sym (passes-begins (passing-told s seen t)))
        (λ t. t ∙ sym (cases (begins_a longer) (λ b. absurd (true≢false (sym (passing-of s seen (begins-passes b)) ∙ t))) (λ b. b)))

    -- and what the state says holds after it
    pub holds-next : Passing s seen → Holds longer (next_a s seen)
    holds-next p =
        record {
          top = front-or {P = λ y. rank_a longer y ≤ rank_seen seen} (λ y m. let a = below-own p y m in omega (arith, own-rank p)) (omega (arith, own-rank p));
          reached = (x, x-in, own-rank p);
          generic_is = let a = open_next (late p) class_kinds in let b = holds.generic_is in omega arith;
          specific_is = let a = open_next (late p) object_kinds in let b = holds.specific_is in omega arith;
          ordered_is = by_order ordering;
        }
      where
        by-some : s.ordered + count_if (not (eqb seen.slot 0)) 1 ≡ length (units_of kind_a front ++ cond (represents_some (kind_a ∷ []) front x) (x ∷ []) [])
        by-some =
            let e = holds.ordered_is in
            cases (represents_some (kind_a ∷ []) front x)
            (λ t. rw (t, ne_eqb seen.slot 0 (slot-not t)) (simp length-append (omega arith)))
            (λ t. rw (t, slot-zero t) (simp length-append (omega arith)))

        by_order : Ordering → s.ordered + count_if (not (eqb seen.slot 0)) 1 ≡ length (units_of (ordered_by longer) longer)
        by_order (as_before e) = by-some ∙ ap length (sym (units-next (late p) kind_a)) ∙ ap (λ (k : ℕ). length (units_of k longer)) (sym e)
        by_order (first_layout k none e) =
            let not-unit : represents_some (kind_a ∷ []) front x ≡ false =
            cases (represents_some (kind_a ∷ []) front x) (λ t. let u = some-unit (kind_a ∷ []) x t in absurd (omega arith)) (λ t. t) in
            let units : units_of 2 longer ≡ [] =
            units-next (late p) 2 ∙ ap (λ (b : Bool). units_of 2 front ++ cond b (x ∷ []) []) (no-units none x) ∙ append-nil (units_of 2 front)
            ∙ keep-none (represents_some (2 ∷ []) front) front (λ y m. no-units none y) in
            let before-none : units_of kind_a front ≡ [] = no_member (units_of kind_a front)
            (λ u m. too-high k u (keep-in (represents_some (kind_a ∷ []) front) front u m)) in
            let zero-ordered : s.ordered ≡ 0 = holds.ordered_is ∙ ap length before-none in
            let left : s.ordered + count_if (not (eqb seen.slot 0)) 1 ≡ 0 = rw (slot-zero not-unit, zero-ordered) in
            left ∙ sym (ap (λ (j : ℕ). length (units_of j longer)) e ∙ ap length units)
          where
            too-high : x.kind ≡ 2 → (u : Element) → (u ∈ front) × (represents_some (kind_a ∷ []) front u ≡ true) → ⊥
            too-high k u (m, t) =
                let (d, i, j, o) = some-told (kind_a ∷ []) front u t in
                let r = owned-rank front u (associated-unit d u o) (placed.tabled u m) d i o in
                let a = awaited-object d (ordered-object front d (of-kind d kind_a j)) in
                let b = holds.top u m in
                let c = p.above in
                let low = object-rank front x (rw k) in
                omega (arith, rank-seen)
