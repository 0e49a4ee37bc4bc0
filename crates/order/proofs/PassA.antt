-- The pass over numbers finds the place of 26 in class A: it stands where the definition does after every front.
use mathlib.Core.Path.{◌≡◌, refl, ap, sym, ◌∙◌, subst}
use mathlib.Core.Bool.{true, false, ◌&&◌, false≢true, true≢false}
use mathlib.Core.List.Memᴰ
use mathlib.Core.List.{List, [], ◌∷◌, ◌++◌, map, append_assoc, append-nil}
use Prim.Native.Nat.{ℕ, suc, ◌<◌, ◌≤◌}
use native.Mathlib.Omega.{arith}
use lib.Dec.{eqb}
use lib.ListN.{length, length-append}
use borrow.Author.Tests.{eqb-true, eqb-false, eq-eqb}
use borrow.Table.Steps.{cases}
use Rattle.headers.specs.Head.{is_in}
use Rattle.portions.specs.Portions.{all}
use Rattle.elements.specs.Judge.{Element}
use Rattle.order.specs.Represents.{◌∈◌, is_represented, all_represented, profile_kind, FitAside, LimitsAside, Listed, everything, keep}
use Rattle.order.specs.Ranks.{rank_in}
use Rattle.order.specs.ClassA.{end_a, class_kinds, object_kinds, represents_some, rank_a, ordered_by, listed_of, units_of, in_step}
use Rattle.order.specs.ClausesA.{profile_first, may_come, placed_a, begins_a, ordered_a}
use Rattle.order.specs.declared.Class.TheVariants.{A}
use Rattle.order.specs.Fault.{fault_from, fault_of}
use Rattle.order.specs.PassA.{listed_in, sight_a, sights_a, StateA, next_a, pass_a, none_a, place_a}
use Rattle.order.proofs.Tests.{both, all_in, all_of}
use Rattle.order.proofs.Representing.{associated-unit, all-represented-told, all-represented-of}
use Rattle.order.proofs.Lacking.{Missing, lister-kind}
use Rattle.order.proofs.Keeping.{keep-none, everything-none}
use Rattle.order.proofs.RanksA.{some-told, Owner, class, object, lister-owner}
use Rattle.order.proofs.FrontA.{Placed, placed_of, placed-told}
use Rattle.order.proofs.Place.{aside-left}
use Rattle.order.proofs.SightsA.{no_member, is_open, open_in, open_of, open_told, empty-step, begins-parts, Holds, passing-told, and-of}
use Rattle.order.proofs.StepA.{begins-placed, tests-exactly, holds-next}

-- at the end: all is represented exactly when nothing is open
module _ (front : List Element) (aside : LimitsAside front) (placed : Placed front) (s : StateA) (holds : Holds front s) where
  closed_all : eqb s.generic 0 && eqb s.specific 0 ≡ true → (e : Element) → e ∈ front → all_represented front e ≡ true
  closed_all t e m =
      all-represented-of front e
      (λ p n. cases (is_represented front e p) (λ u. u)
      (λ u. absurd (none (both (eqb s.generic 0) (eqb s.specific 0) t) (record { by = e; portion = p })
      (record { by = m; listed = n; unrepresented = u }) (lister-owner e (lister-kind e (aside.fit e m) p n)))))
    where
      none : (eqb s.generic 0 ≡ true) × (eqb s.specific 0 ≡ true) → (l : Listed) → Missing front l → Owner l.by → ⊥
      none (g, c) l i (class k) = let a = open_of class_kinds front l i k in let b = eqb-true s.generic 0 g in let d = holds.generic_is in omega arith
      none (g, c) l i (object k) = let a = open_of object_kinds front l i k in let b = eqb-true s.specific 0 c in let d = holds.specific_is in omega arith

  all_closed : ((e : Element) → e ∈ front → all_represented front e ≡ true) → (kinds : List ℕ) → length (open_in kinds front) ≡ 0
  all_closed h kinds =
      ap length (no_member (open_in kinds front)
      (λ l m. let (miss, k) = open_told kinds front l m in
      true≢false (sym (all-represented-told front l.by (h l.by miss.by) l.portion miss.listed) ∙ miss.unrepresented)))

  end-exactly : ordered_a front ≡ eqb s.generic 0 && eqb s.specific 0
  unfolding ordered_a
  end-exactly =
      rw (placed_of front placed)
      (cases (eqb s.generic 0 && eqb s.specific 0)
      (λ t. all_of (all_represented front) front (closed_all t) ∙ sym t)
      (λ t. cases (all (map (all_represented front) front))
      (λ u. let h = all_in (all_represented front) front u in
      let g = all_closed h class_kinds in let c = all_closed h object_kinds in
      let zg : s.generic ≡ 0 = holds.generic_is ∙ g in
      let zc : s.specific ≡ 0 = holds.specific_is ∙ c in
      absurd (true≢false (sym (and-of (eqb s.generic 0) (eqb s.specific 0) (eq-eqb s.generic 0 zg) (eq-eqb s.specific 0 zc)) ∙ t)))
      (λ u. u ∙ sym t)))

pass-finds : (rest front : List Element) (s : StateA) (n : ℕ) → LimitsAside (front ++ rest) → Placed front
    → ((e : Element) → e ∈ front → may_come front e ≡ true) → Holds front s
    → n ≡ length front → pass_a s n (sights_a front rest) ≡ fault_from A front rest
unfolding pass_a fault_from
pass-finds [] front s n a p m h i = rw (end-exactly front (subst LimitsAside (append-nil front) a) p s h, i)
pass-finds (x ∷ xs) front s n a p m h i =
    let split : (front ++ x ∷ []) ++ xs ≡ front ++ x ∷ xs = append_assoc front (x ∷ []) xs in
    let aside : LimitsAside ((front ++ x ∷ []) ++ xs) = subst LimitsAside (sym split) a in
    let here : LimitsAside (front ++ x ∷ []) = aside-left (front ++ x ∷ []) xs aside in
    let e = tests-exactly front x here p m s h in
    cases (begins_a (front ++ x ∷ []))
    (λ b. let (q, k) = begins-placed front x here p m b in
    let next = holds-next front x here p m s h (passing-told s (sight_a front x) (e ∙ b)) in
    let j : suc n ≡ length (front ++ x ∷ []) = simp length-append (omega arith) in
    rw (e ∙ b, b) (pass-finds xs (front ++ x ∷ []) (next_a s (sight_a front x)) (suc n) aside q k next j))
    (λ b. rw (e ∙ b, b, i))

-- the profile
module _ (x : Element) (fit : FitAside x) (profile : x.kind ≡ profile_kind) where
  pub alone-bare : x.portions ≡ []
  alone-bare = no_member x.portions (λ p m. let t : false ≡ true = rw profile at (lister-kind x fit p m) in false≢true t)

  abbrev alone : List Element
  alone = x ∷ []

  in-alone : (P : Element → Type 0) → P x → (y : Element) → y ∈ alone → P y
  in-alone P t y m = subst P (sym (Memᴰ.eq_of_singleton m)) t

  alone-everything : everything alone ≡ []
  alone-everything = everything-none alone (in-alone (λ y. y.portions ≡ []) alone-bare)

  alone-rank : rank_a alone x ≡ 0
  unfolding rank_a rank_in
  alone-rank = rw profile

  alone-units : (kind : ℕ) → units_of kind alone ≡ []
  alone-units kind =
      keep-none (represents_some (kind ∷ []) alone) alone
      (λ y m. cases (represents_some (kind ∷ []) alone y)
      (λ t. let (e, n, k, o) = some-told (kind ∷ []) alone y t in
      let u = associated-unit e y o in let v = in-alone (λ z. z.kind ≡ profile_kind) profile y m in absurd (omega arith)) (λ t. t))

  pub alone-placed : Placed alone
  alone-placed =
      record {
        profile = (profile, λ y m. absurd (Memᴰ.not-nil m));
        tabled = in-alone (λ y. rank_a alone y < end_a) (omega (arith, alone-rank));
        ascending = (λ y m. absurd (Memᴰ.not-nil m), tt);
        all_in_step = ap (in_step (listed_of (ordered_by alone) alone)) (alone-units (ordered_by alone)) ∙ empty-step (listed_of (ordered_by alone) alone);
      }

  alone-may : (e : Element) → e ∈ alone → may_come alone e ≡ true
  unfolding may_come
  alone-may e m =
      let t : all_represented alone e ≡ true = all-represented-of alone e
      (λ p n. absurd (Memᴰ.not-nil (rw (in-alone (λ y. y.portions ≡ []) alone-bare e m) at n))) in
      rw t

  alone-open : (kinds : List ℕ) → length (open_in kinds alone) ≡ 0
  unfolding open_in listed_in keep
  alone-open kinds = ap (λ (ls : List Listed). length (keep (is_open alone) (keep (λ l. is_in l.by.kind kinds) ls))) alone-everything

  alone-holds : Holds alone none_a
  alone-holds =
      record {
        top = in-alone (λ y. rank_a alone y ≤ 0) (omega (arith, alone-rank));
        reached = (x, Memᴰ.head refl, alone-rank);
        generic_is = sym (alone-open class_kinds);
        specific_is = sym (alone-open object_kinds);
        ordered_is = sym (ap length (alone-units (ordered_by alone)));
      }

-- THE LAW of the pass: it finds what the definition says
pub pass_exactly : (elements : List Element) → LimitsAside elements → place_a (sights_a [] elements) ≡ fault_of A elements
unfolding place_a fault_from ordered_a placed_a profile_first
pass_exactly [] a = refl
pass_exactly (x ∷ xs) a =
    cases (eqb x.kind profile_kind)
    (λ t. let k : x.kind ≡ profile_kind = eqb-true x.kind profile_kind t in
    let fit = a.fit x (Memᴰ.head refl) in
    let b : begins_a (x ∷ []) ≡ true = begins-parts [] x
    ∙ and-of _ _ (placed_of (x ∷ []) (alone-placed x fit k)) (all_of (may_come (x ∷ [])) (x ∷ []) (alone-may x fit k)) in
    rw (t, b) (pass-finds xs (x ∷ []) none_a 1 a (alone-placed x fit k) (alone-may x fit k) (alone-holds x fit k) refl))
    (λ t. let b : begins_a (x ∷ []) ≡ false =
    cases (begins_a (x ∷ [])) (λ u. absurd (eqb-false x.kind profile_kind t (placed-told (x ∷ []) (both (placed_a (x ∷ [])) _ (sym (begins-parts [] x)
    ∙ u)).0).profile.0)) (λ u. u) in
    rw (t, b))
