-- The pass over numbers finds the place of 26 in class B: it stands where the pass over elements does, since a unit is a head's own exactly
-- when the head is its owner, and all is represented exactly when nothing is left.
use mathlib.Core.Path.{◌≡◌, refl, ap, sym, ◌∙◌, subst}
use mathlib.Core.Logic.{◌⊎◌, inl, inr}
use mathlib.Core.Bool.{Bool, true, false, cond, not, ◌&&◌, true≢false, and_assoc}
use mathlib.Core.List.Memᴰ
use mathlib.Core.List.{List, [], ◌∷◌, ◌++◌, map, append_assoc, append-nil}
use Prim.Native.Nat.{ℕ, suc, ◌+◌, ◌-◌, ◌<◌}
use native.Mathlib.Omega.{arith}
use lib.Dec.{eqb, leb, ltb}
use lib.ListN.{length, length-append}
use borrow.Author.Tests.{eqb-true, eq-eqb, ne_eqb, leb-true, leb-false}
use borrow.Table.Steps.{cases}
use Rattle.headers.specs.Head.{is_in}
use Rattle.names.specs.Names.{is_portion}
use Rattle.elements.specs.Judge.{Element}
use Rattle.portions.specs.Portions.{all as all_tests}
use Rattle.reading.specs.declared.Side.TheVariants.{Layout}
use Rattle.reading.specs.Match.{kinds_of}
use Rattle.order.specs.Represents.{◌∈◌, is_unit, side_of, is_associated, is_represented, all_represented, profile_kind, NoClash, LimitsAside}
use Rattle.order.specs.ClassB.{end_b, rank_b}
use Rattle.order.specs.ClausesB.{next_b, scan_b, may_go_on, begins_b, ordered_b}
use Rattle.order.specs.declared.Class.TheVariants.{B}
use Rattle.order.specs.Fault.{fault_from, fault_of}
use Rattle.order.specs.PassB.{layout_owner, sight_of, StateB, start_b, can_come, step_b, pass_b, place_b}
use Rattle.order.proofs.Tests.{both, all_in}
use Rattle.order.proofs.Representing.{represents-told, represents-one, associated-told, associated-named}
use Rattle.order.proofs.CutB.{tabled-side, one_more, go-on-named, next-told, profile-tabled}
use Rattle.order.proofs.Counting.{represented-count}
use Rattle.order.proofs.Place.{no-clash-left}

-- an owner's number lies beyond the start
pub owner-beyond : (n : ℕ) (es : List Element) (u : Element) → (layout_owner n es u ≡ 0) ⊎ (n < layout_owner n es u)
unfolding layout_owner
owner-beyond n [] u = inl refl
owner-beyond n (e ∷ es) u = cases (is_in e.kind (kinds_of Layout)
    && is_associated e u) (λ t. rw t (inr (omega arith))) (λ t. rw t (step (owner-beyond (suc n) es u)))
  where
    step : (layout_owner (suc n) es u ≡ 0) ⊎ (suc n < layout_owner (suc n) es u) → (layout_owner (suc n) es u ≡ 0) ⊎ (n < layout_owner (suc n) es u)
    step (inl z) = inl z
    step (inr l) = inr (omega arith)

layout-side : (e : Element) → is_in e.kind (kinds_of Layout) ≡ true → side_of e ≡ Layout
layout-side e t = rw t

owner-layout : (h u : Element) → rank_b h < end_b → is_associated h u ≡ true → is_in h.kind (kinds_of Layout) ≡ true
owner-layout h u t o =
    let (p, m, a) = associated-told h u o in
    subst (λ (s : _). is_in h.kind (kinds_of s) ≡ true) (tabled-side h p u t a) (represents-told h p u a).on_side

-- a unit's owner is an element with a place exactly when that element is_associated it
pub owner-exact : (n : ℕ) (pre : List Element) (h : Element) (post : List Element) (u : Element) → LimitsAside (pre ++ h ∷ post) → rank_b h < end_b
    → eqb (layout_owner n (pre ++ h ∷ post) u) (suc (n + length pre)) ≡ is_associated h u
unfolding layout_owner
owner-exact n [] h post u a t =
    let z : n + 0 ≡ n = omega arith in
    cases (is_associated h u)
    (λ o. rw (o, owner-layout h u t o) (eq-eqb (suc n) (suc (n + 0)) (omega arith)))
    (λ o. rw o (beyond o (is_in h.kind (kinds_of Layout))))
  where
    later : (layout_owner (suc n) post u ≡ 0) ⊎ (suc n < layout_owner (suc n) post u) → layout_owner (suc n) post u ≡ suc (n + 0) → ⊥
    later (inl z) e = omega arith
    later (inr l) e = omega arith

    beyond : is_associated h u ≡ false → (b : Bool) → eqb (cond (b && false) (suc n) (layout_owner (suc n) post u)) (suc (n + 0)) ≡ false
    beyond o true = ne_eqb (layout_owner (suc n) post u) (suc (n + 0)) (later (owner-beyond (suc n) post u))
    beyond o false = ne_eqb (layout_owner (suc n) post u) (suc (n + 0)) (later (owner-beyond (suc n) post u))
owner-exact n (e ∷ pre) h post u a t =
    let rest : LimitsAside (pre ++ h ∷ post) = record { fit = λ x m. a.fit x (Memᴰ.tail m); apart = a.apart.1 } in
    let i : suc (suc n + length pre) ≡ suc (n + suc (length pre)) = omega arith in
    cases (is_in e.kind (kinds_of Layout) && is_associated e u)
    (λ o. let b = both (is_in e.kind (kinds_of Layout)) (is_associated e u) o in
    rw o (ne_eqb (suc n) (suc (n + suc (length pre))) (λ z. omega arith) ∙ sym (not-owned b.0 b.1)))
    (λ o. rw (o, ← i) (owner-exact (suc n) pre h post u rest t))
  where
    here : h ∈ pre ++ h ∷ post
    here = Memᴰ.append_right pre (Memᴰ.head refl)

    not-owned : is_in e.kind (kinds_of Layout) ≡ true → is_associated e u ≡ true → is_associated h u ≡ false
    not-owned k o =
        cases (is_associated h u)
        (λ w. let (p, m, x) = associated-told e u o in
        let (q, l, y) = associated-told h u w in
        let s : side_of e ≡ side_of h = layout-side e k ∙ sym (tabled-side h q u t y) in
        let c = (represents-one e h p q u s (all_in is_portion e.portions (a.fit e (Memᴰ.head refl)).portions p m)
        (all_in is_portion h.portions (a.fit h (Memᴰ.tail here)).portions q l) x y).0 in
        absurd (true≢false (sym c ∙ a.apart.0 h here)))
        (λ w. w)

sub-zero : (a b : ℕ) → leb a b ≡ eqb (a - b) 0
sub-zero a b =
    cases (leb a b)
    (λ t. let l = leb-true a b t in t ∙ sym (eq-eqb (a - b) 0 (omega arith)))
    (λ t. let l = leb-false a b t in t ∙ sym (ne_eqb (a - b) 0 (λ z. omega arith)))

no-clash-right : (xs ys : List Element) → NoClash (xs ++ ys) → NoClash ys
no-clash-right [] ys a = a
no-clash-right (x ∷ xs) ys a = no-clash-right xs ys a.1

-- nothing is represented by no units
lists-none : (e : Element) → all_represented [] e ≡ eqb (length e.portions) 0
unfolding all_represented is_represented
lists-none e = by e.portions
  where
    by : (ps : List (List ℕ)) → all_tests (map (λ p. false) ps) ≡ eqb (length ps) 0
    by [] = refl
    by (p ∷ ps) = sym (ne_eqb (suc (length ps)) 0 (λ z. omega arith))

can-come : (all : List Element) (x : Element) → can_come (sight_of all x) ≡ may_go_on [] x
unfolding may_go_on
can-come all x = rw (lists-none x)

-- the pass over elements from the start
abbrev start : (List Element → Element → Bool) → List Element → Bool
start done [] = false
start done (x ∷ xs) = eqb x.kind profile_kind && scan_b done x [] xs

module _ (all : List Element) (aside : LimitsAside all) where
  -- where both passes stand after a front
  record Stands (front : List Element) (s : StateB) (n : ℕ) (rest : List Element) : Type 0 where
    pre : List Element
    h : Element
    us : List Element
    front_is : front ≡ pre ++ h ∷ us
    all_is : all ≡ front ++ rest
    tabled : rank_b h < end_b
    own : (u : Element) → u ∈ us → is_associated h u ≡ true
    reached : (done : List Element → Element → Bool) (xs : List Element) → start done (front ++ xs) ≡ scan_b done h us xs
    rank_is : s.rank ≡ rank_b h
    head_is : s.head ≡ length pre
    left_is : s.left ≡ length h.portions - length us
    number_is : n ≡ length front

  module _ (front : List Element) (s : StateB) (n : ℕ) (rest : List Element) (c : Stands front s n rest) where
    whole_is : all ≡ c.pre ++ c.h ∷ (c.us ++ rest)
    whole_is = c.all_is ∙ ap (λ (l : List Element). l ++ rest) c.front_is ∙ append_assoc c.pre (c.h ∷ c.us) rest

    in_all : c.h ∈ all
    in_all = subst (λ (l : List Element). c.h ∈ l) (sym whole_is) (Memᴰ.append_right c.pre (Memᴰ.head refl))

    units-apart : NoClash c.us
    units-apart = no-clash-left c.us rest (no-clash-right c.pre (c.h ∷ (c.us ++ rest)) (subst NoClash whole_is aside.apart)).1

    -- nothing is left exactly when all is represented
    left-none : eqb s.left 0 ≡ all_represented c.us c.h
    left-none =
        ap (λ (k : ℕ). eqb k 0) c.left_is ∙ sym (sub-zero (length c.h.portions) (length c.us))
        ∙ sym (represented-count c.h (aside.fit c.h in_all) c.us units-apart c.own)

    -- the owner is the head exactly when the head is_associated it
    owner-head : (u : Element) → eqb (layout_owner 0 all u) (suc s.head) ≡ is_associated c.h u
    owner-head u =
        let i : suc (0 + length c.pre) ≡ suc s.head = ap suc (let z = c.head_is in omega arith) in
        ap (λ (k : ℕ). eqb (layout_owner 0 all u) k) (sym i)
        ∙ ap (λ (l : List Element). eqb (layout_owner 0 l u) (suc (0 + length c.pre))) whole_is
        ∙ owner-exact 0 c.pre c.h (c.us ++ rest) u (subst LimitsAside whole_is aside) c.tabled

  begins-start : (front : List Element) (x : Element) → begins_b (front ++ x ∷ []) ≡ start may_go_on (front ++ x ∷ [])
  unfolding begins_b
  begins-start [] x = refl
  begins-start (y ∷ front) x = refl

  ordered-start : (front : List Element) → ordered_b front ≡ start all_represented front
  unfolding ordered_b
  ordered-start [] = refl
  ordered-start (y ∷ front) = refl

  module _ (front : List Element) (s : StateB) (n : ℕ) (x : Element) (xs : List Element) (c : Stands front s n (x ∷ xs)) where
    begins-unit : is_unit x ≡ true → begins_b (front ++ x ∷ []) ≡ is_associated c.h x
    unfolding scan_b
    begins-unit u =
        let a : scan_b may_go_on c.h c.us (x ∷ []) ≡ is_associated c.h x && may_go_on (c.us ++ x ∷ []) c.h = rw u in
        begins-start front x ∙ c.reached may_go_on (x ∷ []) ∙ a
        ∙ cases (is_associated c.h x) (λ o. rw (o, go-on-named (c.us ++ x ∷ []) c.h (associated-named c.h x o))) (λ o. rw o)

    begins-head : is_unit x ≡ false → begins_b (front ++ x ∷ []) ≡ all_represented c.us c.h && (next_b c.h x && may_go_on [] x)
    unfolding scan_b
    begins-head u =
        let a : scan_b may_go_on c.h c.us (x ∷ []) ≡ all_represented c.us c.h && (next_b c.h x && may_go_on [] x) = rw u in
        begins-start front x ∙ c.reached may_go_on (x ∷ []) ∙ a

    -- one unit more
    stands_unit : is_unit x ≡ true → is_associated c.h x ≡ true → Stands (front ++ x ∷ []) (record {
      rank = s.rank;
      head = s.head;
      left = s.left - 1;
    }) (suc n) xs
    unfolding scan_b
    stands_unit u o =
        record {
          pre = c.pre;
          h = c.h;
          us = c.us ++ x ∷ [];
          front_is = ap (λ (l : List Element). l ++ x ∷ []) c.front_is ∙ append_assoc c.pre (c.h ∷ c.us) (x ∷ []);
          all_is = c.all_is ∙ sym (append_assoc front (x ∷ []) xs);
          tabled = c.tabled;
          own = one_more c.h x c.us o c.own;
          reached = λ done ys. ap (start done) (append_assoc front (x ∷ []) ys) ∙ c.reached done (x ∷ ys) ∙ rw (u, o);
          rank_is = c.rank_is;
          head_is = c.head_is;
          left_is = let z = c.left_is in simp length-append (omega arith);
          number_is = let z = c.number_is in simp length-append (omega arith);
        }

    -- one head more
    stands-head : is_unit x ≡ false → all_represented c.us c.h ≡ true → next_b c.h x ≡ true → Stands (front ++ x ∷ [])
        (start_b n (sight_of all x)) (suc n) xs
    unfolding scan_b
    stands-head u a t =
        record {
          pre = front;
          h = x;
          us = [];
          front_is = refl;
          all_is = c.all_is ∙ sym (append_assoc front (x ∷ []) xs);
          tabled = (next-told c.h x t).tabled;
          own = λ v m. absurd (Memᴰ.not-nil m);
          reached = λ done ys. ap (start done) (append_assoc front (x ∷ []) ys) ∙ c.reached done (x ∷ ys) ∙ rw (u, a, t);
          rank_is = refl;
          head_is = c.number_is;
          left_is = omega arith;
          number_is = let z = c.number_is in simp length-append (omega arith);
        }

    -- the test of the pass over numbers
    head-test : eqb s.left 0 && (not (eqb x.kind profile_kind) && (ltb (rank_b x) end_b && leb s.rank (rank_b x))) && can_come (sight_of all x)
        ≡ all_represented c.us c.h && (next_b c.h x && may_go_on [] x)
    unfolding next_b
    head-test =
        ap (λ (b : Bool). b && (not (eqb x.kind profile_kind) && (ltb (rank_b x) end_b && leb s.rank (rank_b x)))
        && can_come (sight_of all x)) (left-none front s n (x ∷ xs) c)
        ∙ ap (λ (k : ℕ). all_represented c.us c.h && (not (eqb x.kind profile_kind) && (ltb (rank_b x) end_b && leb k (rank_b x)))
        && can_come (sight_of all x)) c.rank_is
        ∙ ap (λ (b : Bool). all_represented c.us c.h && next_b c.h x && b) (can-come all x)
        ∙ and_assoc (all_represented c.us c.h) (next_b c.h x) (may_go_on [] x)

  scan-end : (us : List Element) (h : Element) → scan_b all_represented h us [] ≡ all_represented us h
  unfolding scan_b
  scan-end us h = refl

  pass-finds : (rest front : List Element) (s : StateB) (n : ℕ) → Stands front s n rest → pass_b s n (map (sight_of all) rest) ≡ fault_from B front rest
  unfolding pass_b step_b fault_from
  pass-finds [] front s n c =
      let e : ordered_b front ≡ eqb s.left 0 =
      ordered-start front ∙ ap (start all_represented) (sym (append-nil front)) ∙ c.reached all_represented [] ∙ scan-end c.us c.h
      ∙ sym (left-none front s n [] c) in
      rw (e, c.number_is)
  pass-finds (x ∷ xs) front s n c =
      cases (is_unit x)
      (λ u. cases (is_associated c.h x)
      (λ o. rw (u, owner-head front s n (x ∷ xs) c x, o, begins-unit front s n x xs c u ∙ o)
      (pass-finds xs (front ++ x ∷ []) (record { rank = s.rank; head = s.head; left = s.left - 1 }) (suc n) (stands_unit front s n x xs c u o)))
      (λ o. rw (u, owner-head front s n (x ∷ xs) c x, o, begins-unit front s n x xs c u ∙ o, c.number_is)))
      (λ u. cases (all_represented c.us c.h && (next_b c.h x && may_go_on [] x))
      (λ t. let r = both (all_represented c.us c.h) (next_b c.h x && may_go_on [] x) t in
      let q = both (next_b c.h x) (may_go_on [] x) r.1 in
      rw (u, head-test front s n x xs c ∙ t, begins-head front s n x xs c u ∙ t)
      (pass-finds xs (front ++ x ∷ []) (start_b n (sight_of all x)) (suc n) (stands-head front s n x xs c u r.0 q.0)))
      (λ t. rw (u, head-test front s n x xs c ∙ t, begins-head front s n x xs c u ∙ t, c.number_is)))

  -- after the profile
  stands-first : (x : Element) (xs : List Element) → all ≡ x ∷ xs → x.kind ≡ profile_kind → Stands (x ∷ []) (start_b 0 (sight_of all x)) 1 xs
  stands-first x xs e k =
      record {
        pre = [];
        h = x;
        us = [];
        front_is = refl;
        all_is = e;
        tabled = profile-tabled x k;
        own = λ v m. absurd (Memᴰ.not-nil m);
        reached = λ done ys. rw (eq-eqb x.kind profile_kind k);
        rank_is = refl;
        head_is = refl;
        left_is = omega arith;
        number_is = refl;
      }

  place-first : (x : Element) (xs : List Element) → all ≡ x ∷ xs → place_b (map (sight_of all) (x ∷ xs)) ≡ fault_of B (x ∷ xs)
  unfolding place_b fault_from begins_b scan_b
  place-first x xs e =
      let test : eqb x.kind profile_kind && can_come (sight_of all x) ≡ eqb x.kind profile_kind && may_go_on [] x =
      ap (λ (b : Bool). eqb x.kind profile_kind && b) (can-come all x) in
      cases (eqb x.kind profile_kind && may_go_on [] x)
      (λ t. rw (test ∙ t, t) (pass-finds xs (x ∷ []) (start_b 0 (sight_of all x)) 1
      (stands-first x xs e (eqb-true x.kind profile_kind (both (eqb x.kind profile_kind) (may_go_on [] x) t).0))))
      (λ t. rw (test ∙ t, t))

-- THE LAW of the pass: it finds what the definition says
pub pass_exactly : (elements : List Element) → LimitsAside elements → place_b (map (sight_of elements) elements) ≡ fault_of B elements
unfolding place_b fault_from ordered_b
pass_exactly [] a = refl
pass_exactly (x ∷ xs) a = place-first (x ∷ xs) a x xs refl
