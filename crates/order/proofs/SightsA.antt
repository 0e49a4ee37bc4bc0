-- Class A: what the pass looks at tells what the definition asks: counts of portions, their numbers, and what is open.
use mathlib.Core.Path.{◌≡◌, refl, ap, sym, ◌∙◌}
use mathlib.Core.Logic.{◌⊎◌, inl, inr}
use mathlib.Core.Bool.{Bool, true, false, cond, not, ◌&&◌, ◌||◌, false≢true, true≢false}
use mathlib.Core.List.Memᴰ
use mathlib.Core.List.{List, [], ◌∷◌, ◌++◌, map}
use Prim.Native.Nat.{ℕ, suc, ◌+◌, ◌<◌, ◌≤◌}
use native.Mathlib.Omega.{arith}
use lib.Dec.{eqb, leb, ltb}
use lib.ListN.{length}
use borrow.Author.Tests.{eqb-false, eq-eqb, ne_eqb, not-true, leb-true, le-leb, ltb-true, lt-ltb}
use borrow.Table.Steps.{cases}
use Rattle.headers.specs.Head.{is_in}
use Rattle.portions.specs.Portions.{all, any}
use Rattle.elements.specs.Judge.{Element, clash}
use Rattle.order.specs.Represents.{◌∈◌, represents, is_represented, profile_kind, Listed, everything, keep}
use Rattle.order.specs.ClassA.{end_a, generic_rank, specific_rank, class_kinds, object_kinds, represents_some, rank_a, ordered_by, units_of, in_step}
use Rattle.order.specs.ClausesA.{may_come, placed_a, begins_a}
use Rattle.order.specs.PassA.{listed_in, represents_of, slot_in, SightA, StateA, rank_seen, tests_a}
use Rattle.order.proofs.Tests.{both}
use Rattle.order.proofs.Representing.{associated-told, associated-of}
use Rattle.order.proofs.Lacking.{keep-in, keep-of, everything-in, everything-of, Missing}
use Rattle.order.proofs.Keeping.{keep-none}
use Rattle.order.proofs.RanksA.{some-told, some_of}
use Rattle.order.proofs.Counting.{represent-clash}

module _ {A : Type 0} where
  pub no_member : (xs : List A) → ((x : A) → x ∈ xs → ⊥) → xs ≡ []
  no_member [] h = refl
  no_member (x ∷ xs) h = absurd (h x (Memᴰ.head refl))

  pub member-some : (xs : List A) (x : A) → x ∈ xs → 0 < length xs
  member-some [] x m = absurd (Memᴰ.not-nil m)
  member-some (y ∷ xs) x m = omega arith

  -- those that pass one test, and another that they pass only with it
  pub keep-split : (a b c : A → Bool) (xs : List A) → ((x : A) → x ∈ xs → c x ≡ a x && not (b x)) → ((x : A) → x ∈ xs → b x ≡ true → a x ≡ true)
      → length (keep c xs) + length (keep b xs) ≡ length (keep a xs)
  unfolding keep
  keep-split a b c [] h i = refl
  keep-split a b c (x ∷ xs) h i =
      let ih = keep-split a b c xs (λ y m. h y (Memᴰ.tail m)) (λ y m. i y (Memᴰ.tail m)) in
      let hx = h x (Memᴰ.head refl) in
      cases (b x)
      (λ t. let u = i x (Memᴰ.head refl) t in let w : c x ≡ false = hx ∙ rw (t, u) in rw (t, u, w) (omega arith))
      (λ t. cases (a x)
      (λ u. let w : c x ≡ true = hx ∙ rw (t, u) in rw (t, u, w) (omega arith))
      (λ u. let w : c x ≡ false = hx ∙ rw (t, u) in rw (t, u, w) (omega arith)))

pub keep_one : (test : Element → Bool) (x : Element) → keep test (x ∷ []) ≡ cond (test x) (x ∷ []) []
unfolding keep
keep_one test x = refl

-- what is listed by elements of some kinds
pub listed-in-told : (kinds : List ℕ) (es : List Element) (l : Listed) → l ∈ listed_in kinds es
    → (is_in l.by.kind kinds ≡ true) × (l.by ∈ es) × (l.portion ∈ l.by.portions)
unfolding listed_in
listed-in-told kinds es l m =
    let r = keep-in (λ (k : Listed). is_in k.by.kind kinds) (everything es) l m in
    let q = everything-in es l r.0 in
    (r.1, q.0, q.1)

listed-in-of : (kinds : List ℕ) (es : List Element) (e : Element) (p : List ℕ) → is_in e.kind kinds ≡ true → e ∈ es → p ∈ e.portions
    → ◌∈◌ {A = Listed} (record { by = e; portion = p }) (listed_in kinds es)
unfolding listed_in
listed-in-of kinds es e p k m n = keep-of (λ (l : Listed). is_in l.by.kind kinds) (everything es) (record { by = e; portion = p })
    (everything-of es e p m n) k

-- a unit represents some exactly when it represents one or more
pub some-count : (kinds : List ℕ) (es : List Element) (x : Element) → represents_some kinds es x ≡ ltb 0 (represents_of (listed_in kinds es) x)
unfolding represents_of
some-count kinds es x =
    cases (represents_some kinds es x)
    (λ t. let (e, m, k, o) = some-told kinds es x t in
    let (p, n, a) = associated-told e x o in
    t ∙ sym (lt-ltb 0 (length (keep test (listed_in kinds es)))
    (member-some (keep test (listed_in kinds es)) (record { by = e; portion = p })
    (keep-of test (listed_in kinds es) (record { by = e; portion = p }) (listed-in-of kinds es e p k m n) a))))
    (λ t. t ∙ sym (ap (λ (ls : List Listed). ltb 0 (length ls)) (keep-none test (listed_in kinds es) (λ l m. none t l (listed-in-told kinds es l m)))))
  where
    test : Listed → Bool
    test l = represents l.by l.portion x

    none : represents_some kinds es x ≡ false → (l : Listed) → (is_in l.by.kind kinds ≡ true) × (l.by ∈ es)
        × (l.portion ∈ l.by.portions) → represents l.by l.portion x ≡ false
    none t l (k, m, n) =
        cases (represents l.by l.portion x)
        (λ a. absurd (true≢false (sym (some_of kinds es x l.by m k (associated-of l.by x l.portion n a)) ∙ t))) (λ a. a)

-- slots
pub slot-beyond : (n : ℕ) (ls : List Listed) (x : Element) → (slot_in n ls x ≡ 0) ⊎ (n < slot_in n ls x)
unfolding slot_in
slot-beyond n [] x = inl refl
slot-beyond n (l ∷ ls) x = cases (represents l.by l.portion x) (λ t. rw t (inr (omega arith))) (λ t. rw t (step (slot-beyond (suc n) ls x)))
  where
    step : (slot_in (suc n) ls x ≡ 0) ⊎ (suc n < slot_in (suc n) ls x) → (slot_in (suc n) ls x ≡ 0) ⊎ (n < slot_in (suc n) ls x)
    step (inl z) = inl z
    step (inr l) = inr (omega arith)

pub slot-none : (n : ℕ) (ls : List Listed) (x : Element) → ((l : Listed) → l ∈ ls → represents l.by l.portion x ≡ true → ⊥) → slot_in n ls x ≡ 0
unfolding slot_in
slot-none n [] x h = refl
slot-none n (l ∷ ls) x h =
    cases (represents l.by l.portion x) (λ t. absurd (h l (Memᴰ.head refl) t)) (λ t. rw t (slot-none (suc n) ls x (λ k m. h k (Memᴰ.tail m))))

pub slot-some : (n : ℕ) (ls : List Listed) (x : Element) (l : Listed) → l ∈ ls → represents l.by l.portion x ≡ true → slot_in n ls x ≡ 0 → ⊥
unfolding slot_in
slot-some n [] x l m a z = Memᴰ.not-nil m
slot-some n (k ∷ ls) x l m a z =
    cases (represents k.by k.portion x)
    (λ t. let y : suc n ≡ 0 = rw t at z in omega arith)
    (λ t. step t (λ i. slot-some (suc n) ls x l i a (rw t at z)) (Memᴰ.cases_cons m))
  where
    step : represents k.by k.portion x ≡ false → (l ∈ ls → ⊥) → (l ≡ k) ⊎ (l ∈ ls) → ⊥
    step t below (inl e) = true≢false (sym a ∙ ap (λ (j : Listed). represents j.by j.portion x) e ∙ t)
    step t below (inr i) = below i

-- one unit more is in step exactly when its slot is the next
pub slot_step : (n : ℕ) (ls : List Listed) (us : List Element) (x : Element) → in_step ls us ≡ true → ((u : Element) → u ∈ us → clash u x ≡ false)
    → in_step ls (us ++ x ∷ []) ≡ eqb (slot_in n ls x) (suc (n + length us))
unfolding in_step slot_in
slot_step n [] [] x t c = sym (ne_eqb 0 (suc (n + 0)) (λ z. omega arith))
slot_step n (l ∷ ls) [] x t c =
    cases (represents l.by l.portion x)
    (λ a. rw a (sym (eq-eqb (suc n) (suc (n + 0)) (omega arith))))
    (λ a. rw a (sym (ne_eqb (slot_in (suc n) ls x) (suc (n + 0)) (later (slot-beyond (suc n) ls x)))))
  where
    later : (slot_in (suc n) ls x ≡ 0) ⊎ (suc n < slot_in (suc n) ls x) → slot_in (suc n) ls x ≡ suc (n + 0) → ⊥
    later (inl z) e = omega arith
    later (inr l) e = omega arith
slot_step n [] (u ∷ us) x t c = absurd (false≢true t)
slot_step n (l ∷ ls) (u ∷ us) x t c =
    let r = both (represents l.by l.portion u) (in_step ls us) t in
    let i : suc (suc n + length us) ≡ suc (n + suc (length us)) = omega arith in
    let other : represents l.by l.portion x ≡ false =
    cases (represents l.by l.portion x) (λ a. absurd (true≢false (sym (represent-clash l.by l.portion u x r.0 a)
    ∙ c u (Memᴰ.head refl)))) (λ a. a) in
    rw (r.0, other, ← i) (slot_step (suc n) ls us x r.1 (λ v m. c v (Memᴰ.tail m)))

pub step-more : (ls ks : List Listed) (us : List Element) → in_step ls us ≡ true → in_step (ls ++ ks) us ≡ true
unfolding in_step
step-more ls ks [] t = refl
step-more [] ks (u ∷ us) t = absurd (false≢true t)
step-more (l ∷ ls) ks (u ∷ us) t = let r = both (represents l.by l.portion u) (in_step ls us) t in rw r.0 (step-more ls ks us r.1)

-- what no unit of a front represents
abbrev pub is_open : List Element → Listed → Bool
is_open es l = not (is_represented es l.by l.portion)

unfoldable pub open_in : List ℕ → List Element → List Listed
open_in kinds es = keep (is_open es) (listed_in kinds es)

pub open_of : (kinds : List ℕ) (es : List Element) (l : Listed) → Missing es l → is_in l.by.kind kinds ≡ true → 0 < length (open_in kinds es)
unfolding open_in
open_of kinds es l m k =
    member-some (open_in kinds es) l (keep-of (is_open es) (listed_in kinds es) l (listed-in-of kinds es l.by l.portion k m.by m.listed)
    (rw m.unrepresented))

pub open_told : (kinds : List ℕ) (es : List Element) (l : Listed) → l ∈ open_in kinds es → Missing es l × (is_in l.by.kind kinds ≡ true)
unfolding open_in
open_told kinds es l m =
    let r = keep-in (is_open es) (listed_in kinds es) l m in
    let (k, i, j) = listed-in-told kinds es l r.0 in
    (record { by = i; listed = j; unrepresented = not-true (is_represented es l.by l.portion) r.1 }, k)

pub empty-step : (ls : List Listed) → in_step ls [] ≡ true
unfolding in_step
empty-step ls = refl

pub begins-parts : (front : List Element) (x : Element)
    → begins_a (front ++ x ∷ []) ≡ placed_a (front ++ x ∷ []) && all (map (may_come (front ++ x ∷ [])) (front ++ x ∷ []))
unfolding begins_a
begins-parts [] x = refl
begins-parts (y ∷ front) x = refl

-- what the state says of a front
pub record Holds (front : List Element) (s : StateA) : Type 0 where
  pub top : (y : Element) → y ∈ front → rank_a front y ≤ s.rank
  pub reached : (y : Element) × (y ∈ front) × (rank_a front y ≡ s.rank)
  pub generic_is : s.generic ≡ length (open_in class_kinds front)
  pub specific_is : s.specific ≡ length (open_in object_kinds front)
  pub ordered_is : s.ordered ≡ length (units_of (ordered_by front) front)

-- what the tests say
pub record Passing (s : StateA) (x : SightA) : Type 0 where
  pub late : x.early ≡ false
  pub other : x.kind ≡ profile_kind → ⊥
  pub tabled : rank_seen x < end_a
  pub above : s.rank ≤ rank_seen x
  pub generic_done : leb (rank_seen x) generic_rank || eqb s.generic 0 ≡ true
  pub specific_done : leb (rank_seen x) specific_rank || eqb s.specific 0 ≡ true
  pub comes : eqb x.lists 0 || x.named ≡ true
  pub in_slot : eqb x.slot 0 || eqb x.slot (suc s.ordered) ≡ true

pub passing-told : (s : StateA) (x : SightA) → all (tests_a s x) ≡ true → Passing s x
passing-told s x t =
    let a8 = (eqb x.slot 0 || eqb x.slot (suc s.ordered)) && true in
    let a7 = (eqb x.lists 0 || x.named) && a8 in
    let a6 = (leb (rank_seen x) specific_rank || eqb s.specific 0) && a7 in
    let a5 = (leb (rank_seen x) generic_rank || eqb s.generic 0) && a6 in
    let a4 = leb s.rank (rank_seen x) && a5 in
    let a3 = ltb (rank_seen x) end_a && a4 in
    let a2 = not (eqb x.kind profile_kind) && a3 in
    let b1 = both (not x.early) a2 t in
    let b2 = both (not (eqb x.kind profile_kind)) a3 b1.1 in
    let b3 = both (ltb (rank_seen x) end_a) a4 b2.1 in
    let b4 = both (leb s.rank (rank_seen x)) a5 b3.1 in
    let b5 = both (leb (rank_seen x) generic_rank || eqb s.generic 0) a6 b4.1 in
    let b6 = both (leb (rank_seen x) specific_rank || eqb s.specific 0) a7 b5.1 in
    let b7 = both (eqb x.lists 0 || x.named) a8 b6.1 in
    let b8 = both (eqb x.slot 0 || eqb x.slot (suc s.ordered)) true b7.1 in
    record {
      late = not-true x.early b1.0;
      other = eqb-false x.kind profile_kind (not-true (eqb x.kind profile_kind) b2.0);
      tabled = ltb-true (rank_seen x) end_a b3.0;
      above = leb-true s.rank (rank_seen x) b4.0;
      generic_done = b5.0;
      specific_done = b6.0;
      comes = b7.0;
      in_slot = b8.0;
    }

pub and-of : (a b : Bool) → a ≡ true → b ≡ true → a && b ≡ true
and-of a b p q = rw p q

pub passing-of : (s : StateA) (x : SightA) → Passing s x → all (tests_a s x) ≡ true
passing-of s x p =
    and-of (not x.early) _ (ap not p.late) (and-of (not (eqb x.kind profile_kind)) _ (ap not (ne_eqb x.kind profile_kind p.other))
    (and-of (ltb (rank_seen x) end_a) _ (lt-ltb (rank_seen x) end_a p.tabled) (and-of (leb s.rank (rank_seen x)) _ (le-leb s.rank (rank_seen x) p.above)
    (and-of _ _ p.generic_done (and-of _ _ p.specific_done (and-of _ _ p.comes (and-of _ true p.in_slot refl)))))))

any-more : {A : Type 0} (f : A → Bool) (xs : List A) (x : A) → any (map f (xs ++ x ∷ [])) ≡ any (map f xs) || f x
any-more f [] x = or_nothing (f x)
  where
    or_nothing : (b : Bool) → b || false ≡ b
    or_nothing true = refl
    or_nothing false = refl
any-more f (y ∷ xs) x = cases (f y) (λ t. rw t) (λ t. rw t (any-more f xs x))

pub represented-next : (es : List Element) (x e : Element) (p : List ℕ) → is_represented (es ++ x ∷ []) e p ≡ is_represented es e p || represents e p x
unfolding is_represented
represented-next es x e p = any-more (represents e p) es x

pub not-or : (a b : Bool) → not (a || b) ≡ not a && not b
not-or true b = refl
not-or false b = refl
