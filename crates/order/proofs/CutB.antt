-- Class B: the scan cuts the elements into groups, the last of which may lack units of its own; and it finds nothing wrong with a front of
-- what is in order.
use mathlib.Core.Path.{◌≡◌, refl, ap, sym, ◌∙◌, subst}
use mathlib.Core.Logic.{◌⊎◌, inl, inr}
use mathlib.Core.Bool.{Bool, true, false, not, ◌&&◌, false≢true, true≢false, or-true}
use mathlib.Core.List.Memᴰ
use mathlib.Core.List.{List, [], ◌∷◌, ◌++◌, append_assoc, append-nil}
use Prim.Native.Nat.{ℕ, ◌<◌, ◌≤◌}
use native.Mathlib.Omega.{arith}
use lib.Dec.{eqb, leb, ltb}
use borrow.Author.Tests.{eqb-true, eqb-false, eq-eqb, ne_eqb, not-true, ltb-true, leb-true, lt-ltb, le-leb}
use borrow.Table.Steps.{cases}
use Rattle.headers.specs.Head.{is_in}
use Rattle.elements.specs.Judge.{Element}
use Rattle.reading.specs.declared.Side.TheVariants.{Layout, Logical}
use Rattle.reading.specs.Match.{unit_kind, kinds_of}
use Rattle.order.specs.Represents.{◌∈◌, Ascending, is_unit, named, side_of, represents, is_associated, all_represented, profile_kind, FitAside}
use Rattle.order.specs.Ranks.{rank_in}
use Rattle.order.specs.ClassB.{end_b, rank_b, Group, laid, Together, InOrderB}
use Rattle.order.specs.declared.Class.TheVariants.{B}
use Rattle.order.specs.Begins.{Begins}
use Rattle.order.specs.ClausesB.{next_b, scan_b, may_go_on, begins_b}
use Rattle.order.proofs.Tests.{both}
use Rattle.order.proofs.Representing.{represents-told, associated-unit, associated-named}
use Rattle.order.proofs.Lacking.{lister-kind}

abbrev pub head_rank : Group → ℕ
head_rank g = rank_b g.head

-- what has a place is no unit, and is_associated units on the layout side alone
tabled-head : (e : Element) → rank_b e < end_b → is_unit e ≡ false
unfolding rank_in
tabled-head e t =
    cases (eqb e.kind unit_kind)
    (λ u. let k : e.kind ≡ unit_kind = eqb-true e.kind unit_kind u in
    let r : rank_b e ≡ 7 = rw k in absurd (omega arith))
    (λ u. u)

pub not-unit : (e : Element) → rank_b e < end_b → e.kind ≡ unit_kind → ⊥
not-unit e t k = true≢false (sym (eq-eqb e.kind unit_kind k) ∙ tabled-head e t)

pub tabled-side : (e : Element) (p : List ℕ) (u : Element) → rank_b e < end_b → represents e p u ≡ true → side_of e ≡ Layout
unfolding rank_in
tabled-side e p u t a =
    cases (is_in e.kind (kinds_of Layout)) (λ s. rw s)
    (λ s. let on : is_in e.kind (kinds_of Logical) ≡ true = rw s at (represents-told e p u a).on_side in absurd (no-logical on))
  where
    no-logical : is_in e.kind (kinds_of Logical) ≡ true → ⊥
    no-logical on =
        cases (eqb e.kind 5) (λ v. let r : rank_b e ≡ 7 = rw (eqb-true e.kind 5 v) in omega arith)
        (λ v. cases (eqb e.kind 6) (λ w. let r : rank_b e ≡ 7 = rw (eqb-true e.kind 6 w) in omega arith) (λ w. false≢true (rw (v, w) at on)))

pub profile-tabled : (e : Element) → e.kind ≡ profile_kind → rank_b e < end_b
unfolding rank_in
profile-tabled e k = let r : rank_b e ≡ 0 = rw k in omega arith

-- units list nothing
pub unit-lists-none : (e : Element) → FitAside e → e.kind ≡ unit_kind → (p : List ℕ) → p ∈ e.portions → ⊥
unit-lists-none e f k p m = false≢true (rw k at (lister-kind e f p m))

-- units of its own do not stop the pass
scan-units : (done : List Element → Element → Bool) (h : Element) (us vs rest : List Element) → ((u : Element) → u ∈ vs → is_associated h u ≡ true)
    → scan_b done h us (vs ++ rest) ≡ scan_b done h (us ++ vs) rest
unfolding scan_b
scan-units done h us [] rest o = rw (append-nil us)
scan-units done h us (v ∷ vs) rest o =
    let own : is_associated h v ≡ true = o v (Memᴰ.head refl) in
    let unit : is_unit v ≡ true = eq-eqb v.kind unit_kind (associated-unit h v own) in
    rw (unit, own) (scan-units done h (us ++ v ∷ []) vs rest (λ u m. o u (Memᴰ.tail m)) ∙ rw (append_assoc us (v ∷ []) vs))

next_of : (h x : Element) → (x.kind ≡ profile_kind → ⊥) → rank_b x < end_b → rank_b h ≤ rank_b x → next_b h x ≡ true
unfolding next_b
next_of h x n t l = rw (ne_eqb x.kind profile_kind n, lt-ltb (rank_b x) end_b t, le-leb (rank_b h) (rank_b x) l)

pub record Next (h x : Element) : Type 0 where
  pub other : x.kind ≡ profile_kind → ⊥
  pub tabled : rank_b x < end_b
  pub above : rank_b h ≤ rank_b x

pub next-told : (h x : Element) → next_b h x ≡ true → Next h x
unfolding next_b
next-told h x t =
    let r = both (not (eqb x.kind profile_kind)) (ltb (rank_b x) end_b && leb (rank_b h) (rank_b x)) t in
    let s = both (ltb (rank_b x) end_b) (leb (rank_b h) (rank_b x)) r.1 in
    record {
      other = eqb-false x.kind profile_kind (not-true (eqb x.kind profile_kind) r.0);
      tabled = ltb-true (rank_b x) end_b s.0;
      above = leb-true (rank_b h) (rank_b x) s.1;
    }

-- groups in order pass
groups-scan : (g : Group) (gs : List Group) → Together g → ((k : Group) → k ∈ gs → Together k) → Ascending head_rank (g ∷ gs)
    → ((k : Group) → k ∈ gs → k.head.kind ≡ profile_kind → ⊥) → scan_b all_represented g.head g.units (laid gs) ≡ true
unfolding scan_b
groups-scan g [] t ts a n = t.whole
groups-scan g (k ∷ ks) t ts a n =
    let tk = ts k (Memᴰ.head refl) in
    rw (tabled-head k.head tk.tabled, t.whole, next_of g.head k.head (n k (Memᴰ.head refl)) tk.tabled (a.0 k (Memᴰ.head refl)))
    (scan-units all_represented k.head [] k.units (laid ks) tk.own
    ∙ groups-scan k ks tk (λ j m. ts j (Memᴰ.tail m)) a.1 (λ j m. n j (Memᴰ.tail m)))

pub laid-head : (gs : List Group) (g : Group) → g ∈ gs → g.head ∈ laid gs
laid-head [] g m = absurd (Memᴰ.not-nil m)
laid-head (k ∷ gs) g m = step (laid-head gs g) (Memᴰ.cases_cons m)
  where
    step : (g ∈ gs → g.head ∈ laid gs) → (g ≡ k) ⊎ (g ∈ gs) → g.head ∈ k.head ∷ (k.units ++ laid gs)
    step below (inl e) = Memᴰ.head (ap (λ (j : Group). j.head) e)
    step below (inr n) = Memᴰ.tail (Memᴰ.append_right k.units (below n))

pub scan-whole : (x : Element) (xs : List Element) → InOrderB (x ∷ xs) → scan_b all_represented x [] xs ≡ true
scan-whole x xs o = by-groups o.groups o.laid_out o.together o.ascending
  where
    by-groups : (gs : List Group) → x ∷ xs ≡ laid gs → ((g : Group) → g ∈ gs → Together g) → Ascending head_rank gs → scan_b all_represented x [] xs ≡ true
    by-groups [] e t a = let z : ◌≡◌ {A = ℕ} 0 1 = cc in absurd (omega arith)
    by-groups (g ∷ gs) e t a =
        let p : x ≡ g.head = cc in
        let q : xs ≡ g.units ++ laid gs = cc in
        let tg = t g (Memᴰ.head refl) in
        let s : scan_b all_represented g.head [] (g.units ++ laid gs) ≡ true =
        scan-units all_represented g.head [] g.units (laid gs) tg.own
        ∙ groups-scan g gs tg (λ k m. t k (Memᴰ.tail m)) a
        (λ k m. o.profile.1 k.head (subst (λ (l : List Element). k.head ∈ l) (sym q) (Memᴰ.append_right g.units (laid-head gs k m)))) in
        rw (p, q) s

-- and so does a front of what passes
go_on : (us : List Element) (h : Element) → all_represented us h ≡ true → may_go_on us h ≡ true
unfolding may_go_on
go_on us h t = rw t

pub go-on-named : (us : List Element) (h : Element) → named h ≡ true → may_go_on us h ≡ true
unfolding may_go_on
go-on-named us h t = rw t (or-true (all_represented us h))

scan-front : (h : Element) (us xs more : List Element) → scan_b all_represented h us (xs ++ more) ≡ true → scan_b may_go_on h us xs ≡ true
unfolding scan_b
scan-front h us [] [] t = go_on us h t
scan-front h us [] (m ∷ ms) t =
    cases (is_unit m)
    (λ u. let s : is_associated h m && scan_b all_represented h (us ++ m ∷ []) ms ≡ true = rw u at t in go-on-named us h
    (associated-named h m (both (is_associated h m) _ s).0))
    (λ u. let s : all_represented us h && (next_b h m && scan_b all_represented m [] ms) ≡ true = rw u at t in go_on us h (both (all_represented us h) _ s).0)
scan-front h us (x ∷ xs) more t =
    cases (is_unit x)
    (λ u. let s : is_associated h x && scan_b all_represented h (us ++ x ∷ []) (xs ++ more) ≡ true = rw u at t in
    let r = both (is_associated h x) (scan_b all_represented h (us ++ x ∷ []) (xs ++ more)) s in
    rw (u, r.0) (scan-front h (us ++ x ∷ []) xs more r.1))
    (λ u. let s : all_represented us h && (next_b h x && scan_b all_represented x [] (xs ++ more)) ≡ true = rw u at t in
    let r = both (all_represented us h) (next_b h x && scan_b all_represented x [] (xs ++ more)) s in
    let q = both (next_b h x) (scan_b all_represented x [] (xs ++ more)) r.1 in
    rw (u, r.0, q.0) (scan-front x [] xs more q.1))

pub begins-told : (front : List Element) → Begins B front → begins_b front ≡ true
unfolding begins_b
begins-told [] b = refl
begins-told (x ∷ xs) b =
    rw (eq-eqb x.kind profile_kind b.in_order.profile.0) (scan-front x [] xs b.more (scan-whole x (xs ++ b.more) b.in_order))

-- the pass cuts the elements into groups
pub record Cut (done : List Element → Element → Bool) (h : Element) (us xs : List Element) : Type 0 where
  pub closed : List Group
  pub last : Group
  pub same : h ∷ (us ++ xs) ≡ laid closed ++ (last.head ∷ last.units)
  pub together : (g : Group) → g ∈ closed → Together g
  pub tabled : rank_b last.head < end_b
  pub own : (u : Element) → u ∈ last.units → is_associated last.head u ≡ true
  pub ends : done last.units last.head ≡ true
  pub above : (g : Group) → g ∈ closed ++ last ∷ [] → rank_b h ≤ rank_b g.head
  pub ascending : Ascending head_rank (closed ++ last ∷ [])

pub one_more : (h x : Element) (us : List Element) → is_associated h x ≡ true → ((u : Element) → u ∈ us → is_associated h u ≡ true) → (u : Element)
    → u ∈ us ++ x ∷ [] → is_associated h u ≡ true
one_more h x us t o u m = step (Memᴰ.append_cases us m)
  where
    step : (u ∈ us) ⊎ (u ∈ x ∷ []) → is_associated h u ≡ true
    step (inl n) = o u n
    step (inr n) = ap (is_associated h) (Memᴰ.eq_of_singleton n) ∙ t

first-or : {P : Group → Type 0} (g : Group) (gs : List Group) → P g → ((k : Group) → k ∈ gs → P k) → (k : Group) → k ∈ g ∷ gs → P k
first-or {P} g gs t ts k m = step (Memᴰ.cases_cons m)
  where
    step : (k ≡ g) ⊎ (k ∈ gs) → P k
    step (inl e) = subst P (sym e) t
    step (inr n) = ts k n

module _ {done : List Element → Element → Bool} {h x : Element} {us xs : List Element} where
  cut-unit : Cut done h (us ++ x ∷ []) xs → Cut done h us (x ∷ xs)
  cut-unit c =
      record {
        closed = c.closed;
        last = c.last;
        same = ap (λ (l : List Element). h ∷ l) (sym (append_assoc us (x ∷ []) xs)) ∙ c.same;
        together = c.together;
        tabled = c.tabled;
        own = c.own;
        ends = c.ends;
        above = c.above;
        ascending = c.ascending;
      }

  cut-head : Together (record { head = h; units = us }) → rank_b h ≤ rank_b x → Cut done x [] xs → Cut done h us (x ∷ xs)
  cut-head t l c =
      let g : Group = record { head = h; units = us } in
      record {
        closed = g ∷ c.closed;
        last = c.last;
        same = rw (c.same, append_assoc us (laid c.closed) (c.last.head ∷ c.last.units));
        together = first-or g c.closed t c.together;
        tabled = c.tabled;
        own = c.own;
        ends = c.ends;
        above = first-or {P = λ k. rank_b h ≤ rank_b k.head} g (c.closed ++ c.last ∷ []) (omega arith) (λ k m. let a = c.above k m in omega arith);
        ascending = (λ k m. let a = c.above k m in omega arith, c.ascending);
      }

pub cut : (done : List Element → Element → Bool) (h : Element) (us xs : List Element) → rank_b h < end_b → ((u : Element) → u ∈ us → is_associated h u ≡ true)
    → scan_b done h us xs ≡ true → Cut done h us xs
unfolding scan_b
cut done h us [] t o s =
    record {
      closed = [];
      last = record { head = h; units = us };
      same = ap (λ (l : List Element). h ∷ l) (append-nil us);
      together = λ g m. absurd (Memᴰ.not-nil m);
      tabled = t;
      own = o;
      ends = s;
      above = λ g m. rw (Memᴰ.eq_of_singleton m) (omega arith);
      ascending = (λ g m. absurd (Memᴰ.not-nil m), tt);
    }
cut done h us (x ∷ xs) t o s =
    cases (is_unit x)
    (λ u. let r = both (is_associated h x) (scan_b done h (us ++ x ∷ []) xs) (rw u at s) in
    cut-unit (cut done h (us ++ x ∷ []) xs t (one_more h x us r.0 o) r.1))
    (λ u. let r = both (all_represented us h) (next_b h x && scan_b done x [] xs) (rw u at s) in
    let q = both (next_b h x) (scan_b done x [] xs) r.1 in
    let n = next-told h x q.0 in
    cut-head (record { tabled = t; own = o; whole = r.0 }) n.above (cut done x [] xs n.tabled (λ v m. absurd (Memᴰ.not-nil m)) q.1))

-- the pass meets no second profile
pub scan-others : (done : List Element → Element → Bool) (h : Element) (us xs : List Element) → scan_b done h us xs ≡ true → (y : Element) → y ∈ xs
    → y.kind ≡ profile_kind → ⊥
unfolding scan_b
scan-others done h us [] s y m k = Memᴰ.not-nil m
scan-others done h us (x ∷ xs) s y m k =
    cases (is_unit x)
    (λ u. let r = both (is_associated h x) (scan_b done h (us ++ x ∷ []) xs) (rw u at s) in
    step (λ e. let z : ◌≡◌ {A = ℕ} 0 3 = sym k ∙ ap (λ (z : Element). z.kind) e ∙ eqb-true x.kind unit_kind u in omega arith)
    (λ n. scan-others done h (us ++ x ∷ []) xs r.1 y n k) (Memᴰ.cases_cons m))
    (λ u. let r = both (all_represented us h) (next_b h x && scan_b done x [] xs) (rw u at s) in
    let q = both (next_b h x) (scan_b done x [] xs) r.1 in
    step (λ e. (next-told h x q.0).other (ap (λ (z : Element). z.kind) (sym e) ∙ k))
    (λ n. scan-others done x [] xs q.1 y n k) (Memᴰ.cases_cons m))
  where
    step : (y ≡ x → ⊥) → (y ∈ xs → ⊥) → (y ≡ x) ⊎ (y ∈ xs) → ⊥
    step f g (inl e) = f e
    step f g (inr n) = g n
