-- Where every portion is represented, that the units are in step with the portions says what 7.2 prints: they are ordered as the portions are that
-- they represent.
use mathlib.Core.Path.{◌≡◌, refl, ap, sym, ◌∙◌, subst}
use mathlib.Core.Logic.{◌⊎◌, inl, inr, ◌↔◌}
use mathlib.Core.Bool.{Bool, true, false, false≢true, true≢false}
use mathlib.Core.List.Memᴰ
use mathlib.Core.List.{List, [], ◌∷◌, append-nil}
use Prim.Native.Nat.{ℕ, suc, ◌<◌, ◌≤◌}
use native.Mathlib.Omega.{arith}
use lib.Dec.{eqb}
use borrow.Author.Tests.{eqb-true, eq-eqb}
use borrow.Table.Steps.{cases}
use Rattle.elements.specs.Judge.{Element}
use Rattle.order.specs.Represents.{◌∈◌, Ascending, represents, all_represented, NoClash, LimitsAside, Listed, everything, keep}
use Rattle.order.specs.ClassA.{represents_some, listed_of, units_of, in_step}
use Rattle.order.specs.PassA.{slot_in}
use Rattle.order.proofs.Tests.{both}
use Rattle.order.proofs.Representing.{associated-told, associated-of, represented-told, all-represented-told}
use Rattle.order.proofs.Lacking.{keep-in, keep-of, everything-in, everything-of, AllApart, apart-keep, apart-everything}
use Rattle.order.proofs.Keeping.{ascending-left}
use Rattle.order.proofs.RanksA.{some-told, some_of}
use Rattle.order.proofs.Counting.{represent-clash}
use Rattle.order.proofs.FrontA.{of-kind, kind-of}
use Rattle.order.proofs.OrderA.{apart-unit, kind-side}
use Rattle.order.proofs.SightsA.{slot-beyond, slot-some}

slot-first : (n : ℕ) (l : Listed) (ls : List Listed) (u : Element) → represents l.by l.portion u ≡ true → slot_in n (l ∷ ls) u ≡ suc n
unfolding slot_in
slot-first n l ls u t = rw t

slot-later : (n : ℕ) (l : Listed) (ls : List Listed) (u : Element) → represents l.by l.portion u ≡ false → slot_in n (l ∷ ls) u ≡ slot_in (suc n) ls u
unfolding slot_in
slot-later n l ls u t = rw t

-- the first unit represents the first portion; the others do not
others : (l : Listed) (u : Element) (us : List Element) → NoClash (u ∷ us) → represents l.by l.portion u ≡ true → (v : Element) → v ∈ us
    → represents l.by l.portion v ≡ false
others l u us a t v m =
    cases (represents l.by l.portion v) (λ s. absurd (true≢false (sym (represent-clash l.by l.portion u v t s) ∙ a.0 v m))) (λ s. s)

step-represents : (ls : List Listed) (us : List Element) → in_step ls us ≡ true → (v : Element) → v ∈ us
    → (l : Listed) × (l ∈ ls) × (represents l.by l.portion v ≡ true)
unfolding in_step
step-represents ls [] t v m = absurd (Memᴰ.not-nil m)
step-represents [] (u ∷ us) t v m = absurd (false≢true t)
step-represents (l ∷ ls) (u ∷ us) t v m =
    let r = both (represents l.by l.portion u) (in_step ls us) t in
    which r.0 (step-represents ls us r.1 v) (Memᴰ.cases_cons m)
  where
    which : represents l.by l.portion u ≡ true → (v ∈ us → (k : Listed) × (k ∈ ls) × (represents k.by k.portion v ≡ true)) → (v ≡ u) ⊎ (v ∈ us)
        → (k : Listed) × (k ∈ l ∷ ls) × (represents k.by k.portion v ≡ true)
    which a below (inl e) = (l, Memᴰ.head refl, ap (represents l.by l.portion) e ∙ a)
    which a below (inr i) = let (k, j, b) = below i in (k, Memᴰ.tail j, b)

step-turn : (n : ℕ) (ls : List Listed) (us : List Element) → NoClash us → in_step ls us ≡ true → Ascending (slot_in n ls) us
unfolding in_step
step-turn n ls [] a t = tt
step-turn n [] (u ∷ us) a t = absurd (false≢true t)
step-turn n (l ∷ ls) (u ∷ us) a t =
    let r = both (represents l.by l.portion u) (in_step ls us) t in (
      λ v m. later r.0 r.1 v m (slot-beyond (suc n) ls v),
      ascending-left (slot_in (suc n) ls) (slot_in n (l ∷ ls)) us [] (λ v m. sym (slot-later n l ls v (others l u us a r.0 v m)))
          (subst (Ascending (slot_in (suc n) ls)) (sym (append-nil us)) (step-turn (suc n) ls us a.1 r.1)),
    )
  where
    later : represents l.by l.portion u ≡ true → in_step ls us ≡ true → (v : Element) → v ∈ us → (slot_in (suc n) ls v ≡ 0) ⊎ (suc n < slot_in (suc n) ls v)
        → slot_in n (l ∷ ls) u ≤ slot_in n (l ∷ ls) v
    later b s v m (inl z) = let (k, i, c) = step-represents ls us s v m in absurd (slot-some (suc n) ls v k i c z)
    later b s v m (inr h) = let p = slot-first n l ls u b in let q = slot-later n l ls v (others l u us a b v m) in omega arith

-- what the portions and their units must be for the other way
record Full (kind : ℕ) (ls : List Listed) (us : List Element) : Type 0 where
  of_kinds : (l : Listed) → l ∈ ls → l.by.kind ≡ kind
  apart : AllApart ls
  unclashing : NoClash us
  representing : (u : Element) → u ∈ us → (l : Listed) × (l ∈ ls) × (represents l.by l.portion u ≡ true)
  represented : (l : Listed) → l ∈ ls → (u : Element) × (u ∈ us) × (represents l.by l.portion u ≡ true)

turn_step : (n kind : ℕ) (ls : List Listed) (us : List Element) → Full kind ls us → Ascending (slot_in n ls) us → in_step ls us ≡ true
unfolding in_step
turn_step n kind ls [] f a = refl
turn_step n kind [] (u ∷ us) f a = absurd (Memᴰ.not-nil (f.representing u (Memᴰ.head refl)).1)
turn_step n kind (l ∷ ls) (u ∷ us) f a =
    let b : represents l.by l.portion u ≡ true = first (f.represented l (Memᴰ.head refl)) in
    rw b (turn_step (suc n) kind ls us (rest b)
    (ascending-left (slot_in n (l ∷ ls)) (slot_in (suc n) ls) us [] (λ v m. slot-later n l ls v (others l u us f.unclashing b v m))
    (subst (Ascending (slot_in n (l ∷ ls))) (sym (append-nil us)) a.1)))
  where
    lowest : (v : Element) → v ∈ us → represents l.by l.portion v ≡ true → represents l.by l.portion u ≡ true
    lowest v m t =
        cases (represents l.by l.portion u) (λ s. s)
        (λ s. absurd (too-low s v m t (slot-beyond (suc n) ls u)))
      where
        too-low : represents l.by l.portion u ≡ false → (v : Element) → v ∈ us → represents l.by l.portion v ≡ true
            → (slot_in (suc n) ls u ≡ 0) ⊎ (suc n < slot_in (suc n) ls u) → ⊥
        too-low s v m t (inl z) =
            let (k, i, c) = f.representing u (Memᴰ.head refl) in
            slot-some n (l ∷ ls) u k i c (slot-later n l ls u s ∙ z)
        too-low s v m t (inr h) = let p = slot-later n l ls u s in let q = slot-first n l ls v t in let o = a.0 v m in omega arith

    first : ((v : Element) × (v ∈ u ∷ us) × (represents l.by l.portion v ≡ true)) → represents l.by l.portion u ≡ true
    first (v, m, t) = which (Memᴰ.cases_cons m)
      where
        which : (v ≡ u) ⊎ (v ∈ us) → represents l.by l.portion u ≡ true
        which (inl e) = ap (represents l.by l.portion) (sym e) ∙ t
        which (inr i) = lowest v i t

    rest : represents l.by l.portion u ≡ true → Full kind ls us
    rest b =
        record {
          of_kinds = λ k m. f.of_kinds k (Memᴰ.tail m);
          apart = f.apart.1;
          unclashing = f.unclashing.1;
          representing = λ v m. not_first v m (f.representing v (Memᴰ.tail m));
          represented = λ k m. not-by k m (f.represented k (Memᴰ.tail m));
        }
      where
        not_first : (v : Element) → v ∈ us → ((k : Listed) × (k ∈ l ∷ ls) × (represents k.by k.portion v ≡ true)) → (k : Listed) × (k ∈ ls)
            × (represents k.by k.portion v ≡ true)
        not_first v m (k, i, c) = which (Memᴰ.cases_cons i)
          where
            which : (k ≡ l) ⊎ (k ∈ ls) → (j : Listed) × (j ∈ ls) × (represents j.by j.portion v ≡ true)
            which (inl e) = absurd (true≢false (sym (ap (λ (j : Listed). represents j.by j.portion v) (sym e) ∙ c) ∙ others l u us f.unclashing b v m))
            which (inr j) = (k, j, c)

        not-by : (k : Listed) → k ∈ ls → ((v : Element) × (v ∈ u ∷ us) × (represents k.by k.portion v ≡ true)) → (v : Element) × (v ∈ us)
            × (represents k.by k.portion v ≡ true)
        not-by k m (v, i, c) = which (Memᴰ.cases_cons i)
          where
            which : (v ≡ u) ⊎ (v ∈ us) → (w : Element) × (w ∈ us) × (represents k.by k.portion w ≡ true)
            which (inl e) = absurd (apart-unit l k u (f.apart.0 k m) (kind-side l.by k.by (f.of_kinds l (Memᴰ.head refl)
                ∙ sym (f.of_kinds k (Memᴰ.tail m)))) b
                (ap (represents k.by k.portion) (sym e) ∙ c))
            which (inr j) = (v, j, c)

keep-unclashing : (test : Element → Bool) (es : List Element) → NoClash es → NoClash (keep test es)
unfolding keep
keep-unclashing test [] a = tt
keep-unclashing test (x ∷ es) a =
    cases (test x) (λ t. rw t (λ y m. a.0 y (keep-in test es y m).0, keep-unclashing test es a.1)) (λ t. rw t (keep-unclashing test es a.1))

module _ (es : List Element) (aside : LimitsAside es) (whole : (e : Element) → e ∈ es → all_represented es e ≡ true) (kind : ℕ) where
  full : Full kind (listed_of kind es) (units_of kind es)
  unfolding listed_of
  full =
      record {
        of_kinds = λ l m. eqb-true l.by.kind kind (keep-in test (everything es) l m).1;
        apart = apart-keep test (everything es) (apart-everything es aside);
        unclashing = keep-unclashing (represents_some (kind ∷ []) es) es aside.apart;
        representing = λ u m. let (e, i, k, o) = some-told (kind ∷ []) es u (keep-in (represents_some (kind ∷ []) es) es u m).1 in
            let (p, j, t) = associated-told e u o in (
              record { by = e; portion = p },
              keep-of test (everything es) (record { by = e; portion = p }) (everything-of es e p i j) (eq-eqb e.kind kind (of-kind e kind k)),
              t,
            );
        represented = λ l m. let r = keep-in test (everything es) l m in
            let (i, j) = everything-in es l r.0 in
            let (u, n, t) = represented-told es l.by l.portion (all-represented-told es l.by (whole l.by i) l.portion j) in (
              u,
              keep-of (represents_some (kind ∷ []) es) es u n (some_of (kind ∷ []) es u l.by i
                  (kind-of l.by kind (eqb-true l.by.kind kind r.1)) (associated-of l.by u l.portion j t)),
              t,
            );
      }
    where
      test : Listed → Bool
      test l = eqb l.by.kind kind

  -- in step is in turn
  pub in-turn : (in_step (listed_of kind es) (units_of kind es) ≡ true) ↔ Ascending (slot_in 0 (listed_of kind es)) (units_of kind es)
  in-turn = (step-turn 0 (listed_of kind es) (units_of kind es) full.unclashing, turn_step 0 kind (listed_of kind es) (units_of kind es) full)
