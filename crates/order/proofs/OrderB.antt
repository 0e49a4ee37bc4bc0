-- Class B: with a unit for each portion that is missing, a front that passes is in order; so elements begin a run in order exactly when they
-- pass.
use mathlib.Core.Path.{◌≡◌, refl, ap, sym, ◌∙◌, subst}
use mathlib.Core.Logic.{◌⊎◌, inl, inr, ◌↔◌}
use mathlib.Core.Bool.{Bool, true, false, false≢true, true≢false}
use mathlib.Core.List.Memᴰ
use mathlib.Core.List.{List, [], ◌∷◌, ◌++◌, append_assoc, append-nil}
use Prim.Native.Nat.{ℕ, ◌≤◌}
use native.Mathlib.Omega.{arith}
use lib.Dec.{eqb}
use borrow.Author.Tests.{eqb-true, eq-eqb}
use borrow.Table.Steps.{cases}
use Rattle.names.specs.Names.{is_portion}
use Rattle.elements.specs.Judge.{Element, clash}
use Rattle.order.specs.Represents.{◌∈◌, Ascending, named, side_of, represents, is_associated, is_represented, all_represented, profile_kind, ProfileFirst}
use Rattle.order.specs.Represents.{NoClash, LimitsAside, Listed}
use Rattle.order.specs.ClassB.{rank_b, Group, laid, Together, InOrderB}
use Rattle.order.specs.declared.Class.TheVariants.{B}
use Rattle.order.specs.Begins.{Begins}
use Rattle.order.specs.ClausesB.{scan_b, may_go_on, begins_b, ordered_b}
use Rattle.order.specs.Missing.{missing, unit_for, lacking}
use Rattle.order.proofs.Tests.{both, either, all_in}
use Rattle.order.proofs.Fronts.{begins-front, a_profile, profile-aside}
use Rattle.order.proofs.Representing.{represents-unit, represents-one, associated-told, associated-of, associated-unit, represented-told}
use Rattle.order.proofs.Representing.{represented-of, represented-more, all-represented-told, all-represented-of}
use Rattle.order.proofs.Lacking.{Missing, missing-told, missing-of, unit-for-kind, unit-for-represents, lacking-told, lacking-of, lacking-aside}
use Rattle.order.proofs.CutB.{head_rank, not-unit, tabled-side, profile-tabled, unit-lists-none, laid-head, scan-whole, begins-told, Cut, cut}
use Rattle.order.proofs.CutB.{scan-others}

-- so what passes is in order
laid-append : (gs ks : List Group) → laid (gs ++ ks) ≡ laid gs ++ laid ks
laid-append [] ks = refl
laid-append (g ∷ gs) ks = rw (laid-append gs ks, append_assoc g.units (laid gs) (laid ks))

last-ascending : (gs : List Group) (g k : Group) → rank_b g.head ≡ rank_b k.head → Ascending head_rank (gs ++ g ∷ []) → Ascending head_rank (gs ++ k ∷ [])
last-ascending [] g k e a = (λ j m. absurd (Memᴰ.not-nil m), tt)
last-ascending (i ∷ gs) g k e a =
    (λ j m. step j (Memᴰ.append_cases gs m), last-ascending gs g k e a.1)
  where
    step : (j : Group) → (j ∈ gs) ⊎ (j ∈ k ∷ []) → rank_b i.head ≤ rank_b j.head
    step j (inl m) = a.0 j (Memᴰ.append_left (g ∷ []) m)
    step j (inr m) =
        let f : rank_b j.head ≡ rank_b k.head = ap head_rank (Memᴰ.eq_of_singleton m) in
        let l = a.0 g (Memᴰ.append_right gs (Memᴰ.head refl)) in
        omega arith

last-together : (gs : List Group) (k : Group) → ((g : Group) → g ∈ gs → Together g) → Together k → (g : Group) → g ∈ gs ++ k ∷ [] → Together g
last-together gs k ts t g m = step (Memᴰ.append_cases gs m)
  where
    step : (g ∈ gs) ⊎ (g ∈ k ∷ []) → Together g
    step (inl n) = ts g n
    step (inr n) = subst Together (sym (Memᴰ.eq_of_singleton n)) t

-- a cut whose last group is made whole by more units
closing : (done : List Element → Element → Bool) (h : Element) (xs more : List Element) (c : Cut done h [] xs) → ProfileFirst (h ∷ (xs ++ more))
    → Together (record { head = c.last.head; units = c.last.units ++ more }) → InOrderB (h ∷ (xs ++ more))
closing done h xs more c p t =
    let k : Group = record { head = c.last.head; units = c.last.units ++ more } in
    record {
      profile = p;
      groups = c.closed ++ k ∷ [];
      laid_out = ap (λ (l : List Element). l ++ more) c.same
          ∙ rw (laid-append c.closed (k ∷ []), append-nil (c.last.units ++ more), append_assoc (laid c.closed) (c.last.head ∷ c.last.units) more);
      together = last-together c.closed k c.together t;
      ascending = last-ascending c.closed c.last k refl c.ascending;
    }

pub ordered-told : (elements : List Element) → ordered_b elements ≡ true → InOrderB elements
unfolding ordered_b
ordered-told [] t = absurd (false≢true t)
ordered-told (x ∷ xs) t =
    let r = both (eqb x.kind profile_kind) (scan_b all_represented x [] xs) t in
    let k : x.kind ≡ profile_kind = eqb-true x.kind profile_kind r.0 in
    let c = cut all_represented x [] xs (profile-tabled x k) (λ v m. absurd (Memᴰ.not-nil m)) r.1 in
    record {
      profile = (k, scan-others all_represented x [] xs r.1);
      groups = c.closed ++ c.last ∷ [];
      laid_out = c.same ∙ rw (laid-append c.closed (c.last ∷ []), append-nil c.last.units);
      together = last-together c.closed c.last c.together (record { tabled = c.tabled; own = c.own; whole = c.ends });
      ascending = c.ascending;
    }

pub ordered_of : (elements : List Element) → InOrderB elements → ordered_b elements ≡ true
unfolding ordered_b
ordered_of [] o = absurd o.profile
ordered_of (x ∷ xs) o = rw (eq-eqb x.kind profile_kind o.profile.0) (scan-whole x xs o)

-- where an element of groups stands
laid_in : (gs : List Group) (e : Element) → e ∈ laid gs → (g : Group) × (g ∈ gs) × ((e ≡ g.head) ⊎ (e ∈ g.units))
laid_in [] e m = absurd (Memᴰ.not-nil m)
laid_in (g ∷ gs) e m = step (laid_in gs e) (Memᴰ.cases_cons m)
  where
    deeper : ((k : Group) × (k ∈ gs) × ((e ≡ k.head) ⊎ (e ∈ k.units))) → (k : Group) × (k ∈ g ∷ gs) × ((e ≡ k.head) ⊎ (e ∈ k.units))
    deeper (k, n, w) = (k, Memᴰ.tail n, w)

    second : (e ∈ laid gs → (k : Group) × (k ∈ gs) × ((e ≡ k.head) ⊎ (e ∈ k.units))) → (e ∈ g.units) ⊎ (e ∈ laid gs)
        → (k : Group) × (k ∈ g ∷ gs) × ((e ≡ k.head) ⊎ (e ∈ k.units))
    second below (inl n) = (g, Memᴰ.head refl, inr n)
    second below (inr n) = deeper (below n)

    step : (e ∈ laid gs → (k : Group) × (k ∈ gs) × ((e ≡ k.head) ⊎ (e ∈ k.units))) → (e ≡ g.head) ⊎ (e ∈ g.units ++ laid gs)
        → (k : Group) × (k ∈ g ∷ gs) × ((e ≡ k.head) ⊎ (e ∈ k.units))
    step below (inl p) = (g, Memᴰ.head refl, inl p)
    step below (inr n) = second below (Memᴰ.append_cases g.units n)

laid-units : (gs : List Group) (g : Group) → g ∈ gs → (u : Element) → u ∈ g.units → u ∈ laid gs
laid-units [] g m u n = absurd (Memᴰ.not-nil m)
laid-units (k ∷ gs) g m u n = step (λ o. laid-units gs g o u n) (Memᴰ.cases_cons m)
  where
    step : (g ∈ gs → u ∈ laid gs) → (g ≡ k) ⊎ (g ∈ gs) → u ∈ k.head ∷ (k.units ++ laid gs)
    step below (inl e) = Memᴰ.tail (Memᴰ.append_left (laid gs) (subst (λ (j : Group). u ∈ j.units) e n))
    step below (inr o) = Memᴰ.tail (Memᴰ.append_right k.units (below o))

pub no-clash-split : (xs ys : List Element) → NoClash (xs ++ ys) → (x y : Element) → x ∈ xs → y ∈ ys → clash x y ≡ false
no-clash-split [] ys a x y m n = absurd (Memᴰ.not-nil m)
no-clash-split (z ∷ xs) ys a x y m n = step (λ o. no-clash-split xs ys a.1 x y o n) (Memᴰ.cases_cons m)
  where
    step : (x ∈ xs → clash x y ≡ false) → (x ≡ z) ⊎ (x ∈ xs) → clash x y ≡ false
    step below (inl e) = ap (λ (w : Element). clash w y) e ∙ a.0 y (Memᴰ.append_right xs n)
    step below (inr o) = below o

-- what lacks of a front that passes is units for the head of its last group
module _ (h : Element) (xs : List Element) (aside : LimitsAside (h ∷ xs)) (c : Cut may_go_on h [] xs) where
  abbrev front : List Element
  front = h ∷ xs

  abbrev head : Element
  head = c.last.head

  abbrev units : List Element
  units = c.last.units

  -- an element of the front: in a closed group, or in the last
  data Stands (e : Element) : Type 0 where
    heads : (g : Group) → g ∈ c.closed → e ≡ g.head → Stands e
    follows : (g : Group) → g ∈ c.closed → e ∈ g.units → Stands e
    heads_last : e ≡ head → Stands e
    follows_last : e ∈ units → Stands e

  stands : (e : Element) → e ∈ front → Stands e
  stands e m = either-part (Memᴰ.append_cases (laid c.closed) (subst (λ (l : List Element). e ∈ l) c.same m))
    where
      in-closed : ((g : Group) × (g ∈ c.closed) × ((e ≡ g.head) ⊎ (e ∈ g.units))) → Stands e
      in-closed (g, n, inl p) = heads g n p
      in-closed (g, n, inr p) = follows g n p

      in-last : (e ≡ head) ⊎ (e ∈ units) → Stands e
      in-last (inl p) = heads_last p
      in-last (inr p) = follows_last p

      either-part : (e ∈ laid c.closed) ⊎ (e ∈ head ∷ units) → Stands e
      either-part (inl n) = in-closed (laid_in c.closed e n)
      either-part (inr n) = in-last (Memᴰ.cases_cons n)

  in-front : (e : Element) → e ∈ laid c.closed ++ (head ∷ units) → e ∈ front
  in-front e m = subst (λ (l : List Element). e ∈ l) (sym c.same) m

  closed-in-front : (e : Element) → e ∈ laid c.closed → e ∈ front
  closed-in-front e m = in-front e (Memᴰ.append_left (head ∷ units) m)

  unit-in-front : (u : Element) → u ∈ units → u ∈ front
  unit-in-front u m = in-front u (Memᴰ.append_right (laid c.closed) (Memᴰ.tail m))

  head-in-front : head ∈ front
  head-in-front = in-front head (Memᴰ.append_right (laid c.closed) (Memᴰ.head refl))

  -- only the last head can list what is missing,
  missing-last : (l : Listed) → Missing front l → l.by ≡ head
  missing-last l m = by_place (stands l.by m.by)
    where
      by_place : Stands l.by → l.by ≡ head
      by_place (heads g n p) =
          let t : is_represented g.units g.head l.portion ≡ true =
          all-represented-told g.units g.head (c.together g n).whole l.portion (subst (λ (e : Element). l.portion ∈ e.portions) p m.listed) in
          let s : is_represented front g.head l.portion ≡ true =
          represented-more g.units front g.head l.portion (λ u o. closed-in-front u (laid-units c.closed g n u o)) t in
          absurd (true≢false (sym s ∙ ap (λ (e : Element). is_represented front e l.portion) (sym p) ∙ m.unrepresented))
      by_place (follows g n p) = absurd (unit-lists-none l.by (aside.fit l.by m.by)
          (associated-unit g.head l.by ((c.together g n).own l.by p)) l.portion m.listed)
      by_place (heads_last p) = p
      by_place (follows_last p) = absurd (unit-lists-none l.by (aside.fit l.by m.by) (associated-unit head l.by (c.own l.by p))
          l.portion m.listed)

  -- and it has an identifier
  missing-named : (p : List ℕ) → p ∈ head.portions → is_represented front head p ≡ false → named head ≡ true
  unfolding may_go_on
  missing-named p m u = which (either (all_represented units head) (named head) c.ends)
    where
      which : (all_represented units head ≡ true) ⊎ (named head ≡ true) → named head ≡ true
      which (inl t) = absurd (true≢false (sym (represented-more units front head p unit-in-front (all-represented-told units head t p m)) ∙ u))
      which (inr t) = t

  -- a unit for it is the last head's own
  lacking-own : (u : Element) → ((l : Listed) × (l ∈ missing front) × (unit_for l ≡ u)) → is_associated head u ≡ true
  lacking-own u (l, m, i) =
      let r = missing-told front l m in
      let p : l.by ≡ head = missing-last l r in
      let listed : l.portion ∈ head.portions = subst (λ (e : Element). l.portion ∈ e.portions) p r.listed in
      let n : named l.by ≡ true = ap named p ∙ missing-named l.portion listed (ap (λ (e : Element). is_represented front e l.portion) (sym p)
      ∙ r.unrepresented) in
      let o : is_associated l.by (unit_for l) ≡ true = associated-of l.by (unit_for l) l.portion r.listed
      (unit-for-represents l (aside.fit l.by r.by) r.listed n) in
      sym (ap (λ (e : Element). is_associated e u) p) ∙ ap (is_associated l.by) (sym i) ∙ o

  -- no unit of another group is associated with the last head
  represented-near : (p : List ℕ) → p ∈ head.portions → is_represented front head p ≡ true → is_represented units head p ≡ true
  represented-near p m t = let r = represented-told front head p t in by_place r.0 r.2 (stands r.0 r.1)
    where
      by_place : (u : Element) → represents head p u ≡ true → Stands u → is_represented units head p ≡ true
      by_place u a (heads g n q) = absurd (not-unit g.head (c.together g n).tabled (ap (λ (e : Element). e.kind) (sym q) ∙ represents-unit head p u a))
      by_place u a (follows g n q) =
          let o = associated-told g.head u ((c.together g n).own u q) in
          let s : side_of g.head ≡ side_of head = tabled-side g.head o.0 u (c.together g n).tabled o.2 ∙ sym (tabled-side head p u c.tabled a) in
          let inside = laid-head c.closed g n in
          let one = represents-one g.head head o.0 p u s
          (all_in is_portion g.head.portions (aside.fit g.head (closed-in-front g.head inside)).portions o.0 o.1)
          (all_in is_portion head.portions (aside.fit head head-in-front).portions p m) o.2 a in
          absurd (true≢false (sym one.0 ∙ no-clash-split (laid c.closed) (head ∷ units) (subst NoClash c.same aside.apart)
          g.head head inside (Memᴰ.head refl)))
      by_place u a (heads_last q) = absurd (not-unit head c.tabled (ap (λ (e : Element). e.kind) (sym q) ∙ represents-unit head p u a))
      by_place u a (follows_last q) = represented-of units head p u q a

  made-whole : Together (record { head = head; units = units ++ lacking front })
  made-whole =
      record {
        tabled = c.tabled;
        own = λ u m. own u (Memᴰ.append_cases units m);
        whole = all-represented-of (units ++ lacking front) head (λ p m. cases (is_represented front head p) (near p m) (made p m));
      }
    where
      own : (u : Element) → (u ∈ units) ⊎ (u ∈ lacking front) → is_associated head u ≡ true
      own u (inl n) = c.own u n
      own u (inr n) = lacking-own u (lacking-told front u n)

      near : (p : List ℕ) → p ∈ head.portions → is_represented front head p ≡ true → is_represented (units ++ lacking front) head p ≡ true
      near p m t = represented-more units (units ++ lacking front) head p (λ u n. Memᴰ.append_left (lacking front) n) (represented-near p m t)

      made : (p : List ℕ) → p ∈ head.portions → is_represented front head p ≡ false → is_represented (units ++ lacking front) head p ≡ true
      made p m t =
          let l : Listed = record { by = head; portion = p } in
          represented-of (units ++ lacking front) head p (unit_for l)
          (Memᴰ.append_right units (lacking-of front l (missing-of front head p head-in-front m t)))
          (unit-for-represents l (aside.fit head head-in-front) m (missing-named p m t))

-- what lacks is units, so no profile
pub lacking-others : (es : List Element) (y : Element) → y ∈ lacking es → y.kind ≡ profile_kind → ⊥
lacking-others es y m k = step (lacking-told es y m)
  where
    step : ((l : Listed) × (l ∈ missing es) × (unit_for l ≡ y)) → ⊥
    step (l, n, i) = let z : ◌≡◌ {A = ℕ} 3 0 = sym (unit-for-kind l) ∙ ap (λ (e : Element). e.kind) i ∙ k in omega arith

-- so a front that passes begins a run in order
begins-some : (x : Element) (xs : List Element) → LimitsAside (x ∷ xs) → begins_b (x ∷ xs) ≡ true → Begins B (x ∷ xs)
unfolding begins_b
begins-some x xs a t =
    let r = both (eqb x.kind profile_kind) (scan_b may_go_on x [] xs) t in
    let k : x.kind ≡ profile_kind = eqb-true x.kind profile_kind r.0 in
    let c = cut may_go_on x [] xs (profile-tabled x k) (λ v m. absurd (Memᴰ.not-nil m)) r.1 in
    record {
      more = lacking (x ∷ xs);
      aside = lacking-aside (x ∷ xs) a;
      in_order = closing may_go_on x xs (lacking (x ∷ xs)) c (k, λ y m. others y r.1 (Memᴰ.append_cases xs m)) (made-whole x xs a c);
    }
  where
    others : (y : Element) → scan_b may_go_on x [] xs ≡ true → (y ∈ xs) ⊎ (y ∈ lacking (x ∷ xs)) → y.kind ≡ profile_kind → ⊥
    others y s (inl m) = scan-others may_go_on x [] xs s y m
    others y s (inr m) = lacking-others (x ∷ xs) y m

profile-passes : begins_b (a_profile ∷ []) ≡ true
unfolding begins_b scan_b may_go_on all_represented
profile-passes = refl

pub begins-of : (front : List Element) → LimitsAside front → begins_b front ≡ true → Begins B front
begins-of [] a t = begins-front B [] (a_profile ∷ []) (begins-some a_profile [] profile-aside profile-passes)
begins-of (x ∷ xs) a t = begins-some x xs a t

-- THE THEOREM for class B: the pass computes whether elements begin a run in order, and whether they are in order.
pub begins-exactly : (front : List Element) → LimitsAside front → (begins_b front ≡ true) ↔ Begins B front
begins-exactly front a = (begins-of front a, begins-told front)

pub ordered-exactly : (elements : List Element) → (ordered_b elements ≡ true) ↔ InOrderB elements
ordered-exactly elements = (ordered-told elements, ordered_of elements)
