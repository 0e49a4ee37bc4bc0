-- Class A: with a unit for each portion that is missing, in stream order and then portion order, a front that passes is in order; so
-- elements begin a run in order exactly when they pass.
use mathlib.Core.Path.{◌≡◌, refl, ap, sym, ◌∙◌, subst}
use mathlib.Core.Logic.{◌⊎◌, inl, inr, ◌↔◌}
use mathlib.Core.Bool.{Bool, true, false, cond, not, ◌&&◌, false≢true, true≢false}
use mathlib.Core.List.Memᴰ
use mathlib.Core.List.{List, [], ◌∷◌, ◌++◌, map, append-nil}
use Prim.Native.Nat.{ℕ, ◌<◌, ◌≤◌}
use native.Mathlib.Omega.{arith}
use lib.Dec.{eqb, leb}
use borrow.Author.Tests.{eqb-true, leb-true}
use borrow.Table.Steps.{cases}
use Rattle.headers.specs.Head.{is_in}
use Rattle.portions.specs.Portions.{all}
use Rattle.names.specs.Names.{space_byte, is_portion}
use Rattle.contents.specs.Search.{Value}
use Rattle.elements.specs.Judge.{Element, clash}
use Rattle.reading.specs.declared.Side.{Side}
use Rattle.reading.specs.declared.Side.TheVariants.{Layout, Logical}
use Rattle.reading.specs.Match.{unit_kind, kinds_of, name_on}
use Rattle.order.specs.Represents.{◌∈◌, Ascending, named, side_of, represents, is_associated, is_represented, all_represented, profile_kind, ProfileFirst}
use Rattle.order.specs.Represents.{NoClash, LimitsAside, Listed, everything, keep}
use Rattle.order.specs.Ranks.{rank_in}
use Rattle.order.specs.ClassA.{end_a, class_kinds, object_kinds, represents_some, unit_rank, rank_a, ordered_by, listed_of, units_of, in_step, InOrderA}
use Rattle.order.specs.declared.Class.TheVariants.{A}
use Rattle.order.specs.Begins.{Begins}
use Rattle.order.specs.ClausesA.{profile_first, ascends, awaited, may_come, placed_a, begins_a, ordered_a}
use Rattle.order.specs.Missing.{missing, label, unit_for, lacking}
use Rattle.order.proofs.Tests.{both, either, all_in}
use Rattle.order.proofs.Fronts.{begins-front, a_profile, profile-aside}
use Rattle.order.proofs.Representing.{represents-told, represents-one, associated-told, associated-of, represented-told, represented-of}
use Rattle.order.proofs.Representing.{represented-more, all-represented-told, all-represented-of}
use Rattle.order.proofs.Lacking.{keep-in, keep-of, everything-in, Missing, missing-told, missing-of, lister-kind, unit-for-kind, unit-for-bare}
use Rattle.order.proofs.Lacking.{unit-for-represents, unit-for-side, Apart, AllApart, apart-keep, apart-everything, lacking-told, lacking-of}
use Rattle.order.proofs.Lacking.{lacking-aside}
use Rattle.order.proofs.OrderB.{lacking-others}
use Rattle.order.proofs.Keeping.{keep_append, keep_all, keep_same, keep-swap, keep-map, ascending-left, ascending-append, ascending-any}
use Rattle.order.proofs.Keeping.{everything-append, everything-none}
use Rattle.order.proofs.RanksA.{some-told, some_of, Owner, class, object, lister-owner, object-rank, class-not-object, awaited-class, awaited-object}
use Rattle.order.proofs.RanksA.{unit-rank, rank_same}
use Rattle.order.proofs.FrontA.{steps, Placed, placed-told, ordered_of, ordered-told, kind-of, ordered_same, begins-told}

-- of elements that do not clash two that would are one
no-clash-one : (es : List Element) → NoClash es → (e f : Element) → e ∈ es → f ∈ es → clash e f ≡ true → clash f e ≡ true → e ≡ f
no-clash-one [] a e f m n c d = absurd (Memᴰ.not-nil m)
no-clash-one (x ∷ es) a e f m n c d = step (λ i j. no-clash-one es a.1 e f i j c d) (Memᴰ.cases_cons m) (Memᴰ.cases_cons n)
  where
    step : (e ∈ es → f ∈ es → e ≡ f) → (e ≡ x) ⊎ (e ∈ es) → (f ≡ x) ⊎ (f ∈ es) → e ≡ f
    step below (inl p) (inl q) = p ∙ sym q
    step below (inl p) (inr j) = absurd (true≢false (sym c ∙ ap (λ (z : Element). clash z f) p ∙ a.0 f j))
    step below (inr i) (inl q) = absurd (true≢false (sym d ∙ ap (λ (z : Element). clash z e) q ∙ a.0 e i))
    step below (inr i) (inr j) = below i j

-- one unit does not represent two portions that are apart
pub apart-unit : (l k : Listed) (u : Element) → Apart l k → side_of l.by ≡ side_of k.by → represents l.by l.portion u ≡ true
    → represents k.by k.portion u ≡ true → ⊥
apart-unit l k u a s t w =
    let i = represents-told l.by l.portion u t in
    let j = represents-told k.by k.portion u w in
    a s (i.identifier ++ space_byte ∷ l.portion) (ap (λ (v : Value). label v l.portion) i.named)
    (ap (λ (v : Value). label v k.portion) j.named ∙ sym j.spelt ∙ ap (λ (x : Side). name_on x u) (sym s) ∙ i.spelt)

pub kind-side : (d e : Element) → d.kind ≡ e.kind → side_of d ≡ side_of e
kind-side d e p = ap (λ (k : ℕ). cond (is_in k (kinds_of Layout)) Layout Logical) p

-- units in step, and then a unit for each that is left
module _ (es : List Element) (kind : ℕ) where
  abbrev open_yet : Listed → Bool
  open_yet l = not (is_represented es l.by l.portion)

  rest-in-step : (ls : List Listed) → ((l : Listed) → l ∈ ls → represents l.by l.portion (unit_for l) ≡ true) → in_step ls (map unit_for ls) ≡ true
  unfolding in_step
  rest-in-step [] h = refl
  rest-in-step (l ∷ ls) h = rw (h l (Memᴰ.head refl)) (rest-in-step ls (λ k m. h k (Memᴰ.tail m)))

  all-in-step : (ls : List Listed) (us : List Element) → in_step ls us ≡ true → AllApart ls → ((l : Listed) → l ∈ ls → l.by.kind ≡ kind)
      → ((u : Element) → u ∈ us → u ∈ es)
      → ((l : Listed) → l ∈ ls → is_represented es l.by l.portion ≡ true → (u : Element) × (u ∈ us) × (represents l.by l.portion u ≡ true))
      → ((l : Listed) → l ∈ ls → is_represented es l.by l.portion ≡ false → represents l.by l.portion (unit_for l) ≡ true)
      → in_step ls (us ++ map unit_for (keep open_yet ls)) ≡ true
  unfolding in_step keep
  all-in-step ls [] t a k i h n =
      let none : (l : Listed) → l ∈ ls → is_represented es l.by l.portion ≡ false =
      λ l m. cases (is_represented es l.by l.portion) (λ u. absurd (Memᴰ.not-nil (h l m u).1)) (λ u. u) in
      subst (λ (ks : List Listed). in_step ls (map unit_for ks) ≡ true) (sym (keep_all open_yet ls (λ l m. rw (none l m))))
      (rest-in-step ls (λ l m. n l m (none l m)))
  all-in-step [] (u ∷ us) t a k i h n = absurd (false≢true t)
  all-in-step (l ∷ ls) (u ∷ us) t a k i h n =
      let r = both (represents l.by l.portion u) (in_step ls us) t in
      let d = represented-of es l.by l.portion u (i u (Memᴰ.head refl)) r.0 in
      rw (r.0, d)
      (all-in-step ls us r.1 a.1 (λ j m. k j (Memᴰ.tail m)) (λ v m. i v (Memᴰ.tail m))
      (λ j m s. elsewhere r.0 j m (h j (Memᴰ.tail m) s)) (λ j m. n j (Memᴰ.tail m)))
    where
      elsewhere : represents l.by l.portion u ≡ true → (j : Listed) → j ∈ ls
          → ((v : Element) × (v ∈ u ∷ us) × (represents j.by j.portion v ≡ true)) → (v : Element) × (v ∈ us) × (represents j.by j.portion v ≡ true)
      elsewhere b j m (v, o, w) = step (Memᴰ.cases_cons o)
        where
          step : (v ≡ u) ⊎ (v ∈ us) → (x : Element) × (x ∈ us) × (represents j.by j.portion x ≡ true)
          step (inl e) = absurd (apart-unit l j u (a.0 j m) (kind-side l.by j.by (k l (Memᴰ.head refl) ∙ sym (k j (Memᴰ.tail m)))) b
              (ap (represents j.by j.portion) (sym e) ∙ w))
          step (inr p) = (v, p, w)

-- a front that passes, with all that it lacks
module _ (front : List Element) (aside : LimitsAside front) (placed : Placed front) (may : (e : Element) → e ∈ front → may_come front e ≡ true) where
  abbrev more : List Element
  more = lacking front

  abbrev complete : List Element
  complete = front ++ more

  more-bare : (e : Element) → e ∈ more → (e.portions ≡ []) × (e.kind ≡ unit_kind)
  more-bare e m = step (lacking-told front e m)
    where
      step : ((l : Listed) × (l ∈ missing front) × (unit_for l ≡ e)) → (e.portions ≡ []) × (e.kind ≡ unit_kind)
      step (l, n, i) = (ap (λ (x : Element). x.portions) (sym i) ∙ unit-for-bare l, ap (λ (x : Element). x.kind) (sym i) ∙ unit-for-kind l)

  more-associated-none : (e u : Element) → e ∈ more → is_associated e u ≡ true → ⊥
  more-associated-none e u m t = let (p, n, a) = associated-told e u t in Memᴰ.not-nil (subst (λ (ps : List (List ℕ)). p ∈ ps) (more-bare e m).0 n)

  -- what more adds is_associated nothing, so ranks stay
  some-complete : (u : Element) (kinds : List ℕ) → represents_some kinds complete u ≡ represents_some kinds front u
  some-complete u kinds = cases (represents_some kinds front u) (λ t. up t ∙ sym t) (λ t. down t ∙ sym t)
    where
      up : represents_some kinds front u ≡ true → represents_some kinds complete u ≡ true
      up t = let (e, n, k, w) = some-told kinds front u t in some_of kinds complete u e (Memᴰ.append_left more n) k w

      where-owner : represents_some kinds front u ≡ false → (e : Element) → is_in e.kind kinds ≡ true → is_associated e u ≡ true → (e ∈ front) ⊎ (e ∈ more) → ⊥
      where-owner t e k w (inl n) = true≢false (sym (some_of kinds front u e n k w) ∙ t)
      where-owner t e k w (inr n) = more-associated-none e u n w

      down : represents_some kinds front u ≡ false → represents_some kinds complete u ≡ false
      down t = cases (represents_some kinds complete u)
          (λ s. let (e, n, k, w) = some-told kinds complete u s in absurd (where-owner t e k w (Memᴰ.append_cases front n))) (λ s. s)

  rank-complete : (x : Element) → rank_a complete x ≡ rank_a front x
  rank-complete x = rank_same complete front x (some-complete x)

  -- who lists what is missing has an identifier, and no rank is above its units'
  pub awaits : (l : Listed) → Missing front l → (named l.by ≡ true) × ((x : Element) → x ∈ front → rank_a front x ≤ awaited l.by)
  unfolding may_come
  awaits l m =
      which (either (all_represented front l.by) (named l.by
      && all (map (λ (x : Element). leb (rank_a front x) (awaited l.by)) front)) (may l.by m.by))
    where
      which : (all_represented front l.by ≡ true) ⊎ (named l.by && all (map (λ (x : Element). leb (rank_a front x) (awaited l.by)) front) ≡ true)
          → (named l.by ≡ true) × ((x : Element) → x ∈ front → rank_a front x ≤ awaited l.by)
      which (inl t) = absurd (true≢false (sym (all-represented-told front l.by t l.portion m.listed) ∙ m.unrepresented))
      which (inr t) =
          let r = both (named l.by) (all (map (λ (x : Element). leb (rank_a front x) (awaited l.by)) front)) t in
          (r.0, λ x n. leb-true (rank_a front x) (awaited l.by) (all_in (λ (y : Element). leb (rank_a front y) (awaited l.by)) front r.1 x n))

  made-represents : (l : Listed) → Missing front l → represents l.by l.portion (unit_for l) ≡ true
  made-represents l m = unit-for-represents l (aside.fit l.by m.by) m.listed (awaits l m).0

  missing-owner : (l : Listed) → Missing front l → Owner l.by
  missing-owner l m = lister-owner l.by (lister-kind l.by (aside.fit l.by m.by) l.portion m.listed)

  -- the unit for it has no other owner
  sole-owner : (l : Listed) → Missing front l → (e : Element) → e ∈ front → is_associated e (unit_for l) ≡ true → e ≡ l.by
  sole-owner l m e n t =
      let (p, i, a) = associated-told e (unit_for l) t in
      let s : side_of e ≡ side_of l.by = unit-for-side l e p a in
      let x = all_in is_portion e.portions (aside.fit e n).portions p i in
      let y = all_in is_portion l.by.portions (aside.fit l.by m.by).portions l.portion m.listed in
      let b = made-represents l m in
      no-clash-one front aside.apart e l.by n m.by (represents-one e l.by p l.portion (unit_for l) s x y a b).0
      (represents-one l.by e l.portion p (unit_for l) (sym s) y x b a).0

  -- so it is associated with elements of those kinds alone of which its owner is
  made_some : (l : Listed) → Missing front l → (kinds : List ℕ) → represents_some kinds front (unit_for l) ≡ is_in l.by.kind kinds
  made_some l m kinds =
      cases (is_in l.by.kind kinds)
      (λ t. some_of kinds front (unit_for l) l.by m.by t (associated-of l.by (unit_for l) l.portion m.listed (made-represents l m)) ∙ sym t)
      (λ t. cases (represents_some kinds front (unit_for l))
      (λ s. let (e, n, k, w) = some-told kinds front (unit_for l) s in
      absurd (true≢false (sym k ∙ ap (λ (x : Element). is_in x.kind kinds) (sole-owner l m e n w) ∙ t))) (λ s. s ∙ sym t))

  made-rank : (l : Listed) → Missing front l → rank_a front (unit_for l) ≡ awaited l.by
  made-rank l m = by-owner (missing-owner l m)
    where
      first : rank_a front (unit_for l) ≡ unit_rank (is_in l.by.kind class_kinds) (is_in l.by.kind object_kinds)
      first = unit-rank front (unit_for l) (unit-for-kind l) ∙ rw (made_some l m class_kinds, made_some l m object_kinds)

      by-owner : Owner l.by → rank_a front (unit_for l) ≡ awaited l.by
      by-owner (class k) =
          let other : is_in l.by.kind object_kinds ≡ false = cases (is_in l.by.kind object_kinds) (λ t. absurd (class-not-object l.by k t)) (λ t. t) in
          first ∙ ap (λ (b : Bool). unit_rank b (is_in l.by.kind object_kinds)) k ∙ ap (unit_rank true) other ∙ sym (awaited-class l.by k)
      by-owner (object k) =
          let other : is_in l.by.kind class_kinds ≡ false = cases (is_in l.by.kind class_kinds) (λ t. absurd (class-not-object l.by t k)) (λ t. t) in
          first ∙ ap (λ (b : Bool). unit_rank b (is_in l.by.kind object_kinds)) other ∙ ap (unit_rank false) k ∙ sym (awaited-object l.by k)

  awaited-below : (e : Element) → Owner e → awaited e < end_a
  awaited-below e (class k) = let a = awaited-class e k in omega arith
  awaited-below e (object k) = let a = awaited-object e k in omega arith

  -- all that lacks is generic, or all specific
  awaited-one : (l k : Listed) → Missing front l → Missing front k → awaited l.by ≤ awaited k.by
  awaited-one l k m n = by-owner (missing-owner l m) (missing-owner k n)
    where
      by-owner : Owner l.by → Owner k.by → awaited l.by ≤ awaited k.by
      by-owner (class i) (class j) = let a = awaited-class l.by i in let b = awaited-class k.by j in omega arith
      by-owner (class i) (object j) = let a = awaited-class l.by i in let b = awaited-object k.by j in omega arith
      by-owner (object i) (class j) =
          let a = (awaits k n).1 l.by m.by in let b = object-rank front l.by i in let c = awaited-class k.by j in absurd (omega arith)
      by-owner (object i) (object j) = let a = awaited-object l.by i in let b = awaited-object k.by j in omega arith

  more-rank : (u : Element) → u ∈ more → (l : Listed) × Missing front l × (rank_a complete u ≡ awaited l.by)
  more-rank u m = step (lacking-told front u m)
    where
      step : ((l : Listed) × (l ∈ missing front) × (unit_for l ≡ u)) → (l : Listed) × Missing front l × (rank_a complete u ≡ awaited l.by)
      step (l, n, i) = let r = missing-told front l n in (l, r, rank-complete u ∙ ap (rank_a front) (sym i) ∙ made-rank l r)

  complete-ascending : Ascending (rank_a complete) complete
  complete-ascending =
      ascending-append (rank_a complete) front more
      (ascending-left (rank_a front) (rank_a complete) front [] (λ x m. sym (rank-complete x))
      (subst (Ascending (rank_a front)) (sym (append-nil front)) placed.ascending))
      (ascending-any (rank_a complete) more
      (λ x y m n. let (l, i, r) = more-rank x m in let (k, j, s) = more-rank y n in let a = awaited-one l k i j in omega arith))
      (λ x y m n. let (k, j, s) = more-rank y n in let a = (awaits k j).1 x m in let b = rank-complete x in omega arith)

  complete-tabled : (e : Element) → e ∈ complete → rank_a complete e < end_a
  complete-tabled e m = step (Memᴰ.append_cases front m)
    where
      step : (e ∈ front) ⊎ (e ∈ more) → rank_a complete e < end_a
      step (inl n) = let a = placed.tabled e n in let b = rank-complete e in omega arith
      step (inr n) = let (l, i, r) = more-rank e n in let a = awaited-below l.by (missing-owner l i) in omega arith

  complete-whole : (e : Element) → e ∈ complete → all_represented complete e ≡ true
  complete-whole e m = step (Memᴰ.append_cases front m)
    where
      one : e ∈ front → (p : List ℕ) → p ∈ e.portions → is_represented complete e p ≡ true
      one n p i =
          cases (is_represented front e p) (λ t. represented-more front complete e p (λ u o. Memᴰ.append_left more o) t)
          (λ t. let l : Listed = record { by = e; portion = p } in
          let r = missing-of front e p n i t in
          represented-of complete e p (unit_for l) (Memᴰ.append_right front (lacking-of front l r)) (made-represents l (missing-told front l r)))

      step : (e ∈ front) ⊎ (e ∈ more) → all_represented complete e ≡ true
      step (inl n) = all-represented-of complete e (one n)
      step (inr n) = all-represented-of complete e (λ p i. absurd (Memᴰ.not-nil (rw (more-bare e n).0 at i)))

  abbrev kind_a : ℕ
  kind_a = ordered_by front

  complete-order : ordered_by complete ≡ kind_a
  complete-order = ordered_same front more (λ e m k. let b = (more-bare e m).1 in omega arith)

  complete-listed : listed_of kind_a complete ≡ listed_of kind_a front
  unfolding listed_of
  complete-listed =
      ap (keep (λ l. eqb l.by.kind kind_a))
      (everything-append front more ∙ ap (λ (ls : List Listed). everything front ++ ls) (everything-none more (λ e m. (more-bare e m).0))
      ∙ append-nil (everything front))

  -- of what lacks, the ordered units are those for what the objects of that kind list
  lacking-units : keep (represents_some (kind_a ∷ []) complete) more ≡ map unit_for (keep (open_yet front kind_a) (listed_of kind_a front))
  unfolding lacking missing listed_of
  lacking-units =
      keep-map (represents_some (kind_a ∷ []) complete) unit_for (missing front)
      ∙ ap (map unit_for)
      (keep_same (λ l. represents_some (kind_a ∷ []) complete (unit_for l)) (λ l. eqb l.by.kind kind_a) (missing front)
      (λ l m. some-complete (unit_for l) (kind_a ∷ []) ∙ made_some l (missing-told front l m) (kind_a ∷ []) ∙ is-kind (eqb l.by.kind kind_a))
      ∙ keep-swap (λ l. eqb l.by.kind kind_a) (open_yet front kind_a) (everything front))
    where
      is-kind : (b : Bool) → cond b true false ≡ b
      is-kind true = refl
      is-kind false = refl

  complete-units : units_of kind_a complete ≡ units_of kind_a front ++ map unit_for (keep (open_yet front kind_a) (listed_of kind_a front))
  complete-units =
      keep_append (represents_some (kind_a ∷ []) complete) front more
      ∙ ap (λ (us : List Element). us ++ keep (represents_some (kind_a ∷ []) complete) more)
      (keep_same (represents_some (kind_a ∷ []) complete) (represents_some (kind_a ∷ []) front) front (λ x m. some-complete x (kind_a ∷ [])))
      ∙ ap (λ (us : List Element). units_of kind_a front ++ us) lacking-units

  listed-told : (l : Listed) → l ∈ listed_of kind_a front → (l.by.kind ≡ kind_a) × (l.by ∈ front) × (l.portion ∈ l.by.portions)
  unfolding listed_of
  listed-told l m =
      let r = keep-in (λ (k : Listed). eqb k.by.kind kind_a) (everything front) l m in
      let q = everything-in front l r.0 in
      (eqb-true l.by.kind kind_a r.1, q.0, q.1)

  listed-apart : AllApart (listed_of kind_a front)
  unfolding listed_of
  listed-apart = apart-keep (λ (k : Listed). eqb k.by.kind kind_a) (everything front) (apart-everything front aside)

  complete-steps : steps complete ≡ true
  complete-steps =
      let a : in_step (listed_of kind_a front) (units_of kind_a front ++ map unit_for (keep (open_yet front kind_a) (listed_of kind_a front))) ≡ true =
      all-in-step front kind_a (listed_of kind_a front) (units_of kind_a front) placed.all_in_step listed-apart (λ l m. (listed-told l m).0)
      (λ u m. (keep-in (represents_some (kind_a ∷ []) front) front u m).0)
      representing
      (λ l m t. let r = listed-told l m in made-represents l (record { by = r.1; listed = r.2; unrepresented = t })) in
      let b : in_step (listed_of kind_a complete) (units_of kind_a complete) ≡ true =
      subst (λ (ls : List Listed). in_step ls (units_of kind_a complete) ≡ true) (sym complete-listed)
      (subst (λ (us : List Element). in_step (listed_of kind_a front) us ≡ true) (sym complete-units) a) in
      subst (λ (k : ℕ). in_step (listed_of k complete) (units_of k complete) ≡ true) (sym complete-order) b
    where
      representing : (l : Listed) → l ∈ listed_of kind_a front → is_represented front l.by l.portion ≡ true
          → (u : Element) × (u ∈ units_of kind_a front) × (represents l.by l.portion u ≡ true)
      representing l m t =
          let (k, i, j) = listed-told l m in
          let (u, n, w) = represented-told front l.by l.portion t in (
            u,
            keep-of (represents_some (kind_a ∷ []) front) front u n
                (some_of (kind_a ∷ []) front u l.by i (kind-of l.by kind_a k) (associated-of l.by u l.portion j w)),
            w,
          )

  complete-profile : ProfileFirst complete
  complete-profile = profile-more front placed.profile
    where
      profile-more : (f : List Element) → ProfileFirst f → ProfileFirst (f ++ more)
      profile-more [] p = absurd p
      profile-more (x ∷ xs) p = (p.0, λ y m. step y (Memᴰ.append_cases xs m))
        where
          step : (y : Element) → (y ∈ xs) ⊎ (y ∈ more) → y.kind ≡ profile_kind → ⊥
          step y (inl n) = p.1 y n
          step y (inr n) = lacking-others front y n

  complete-begins : Begins A front
  complete-begins =
      record {
        more = more;
        aside = lacking-aside front aside;
        in_order = record {
          profile = complete-profile;
          tabled = complete-tabled;
          ascending = complete-ascending;
          all_in_step = complete-steps;
          whole = complete-whole;
        };
      }

begins-some : (x : Element) (xs : List Element) → LimitsAside (x ∷ xs) → begins_a (x ∷ xs) ≡ true → Begins A (x ∷ xs)
unfolding begins_a
begins-some x xs a t =
    let r = both (placed_a (x ∷ xs)) (all (map (may_come (x ∷ xs)) (x ∷ xs))) t in
    complete-begins (x ∷ xs) a (placed-told (x ∷ xs) r.0) (all_in (may_come (x ∷ xs)) (x ∷ xs) r.1)

profile-passes : begins_a (a_profile ∷ []) ≡ true
unfolding begins_a placed_a profile_first ascends rank_a in_step listed_of ordered_by keep represents_some everything may_come all_represented is_associated rank_in
profile-passes = refl

pub begins-of : (front : List Element) → LimitsAside front → begins_a front ≡ true → Begins A front
begins-of [] a t = begins-front A [] (a_profile ∷ []) (begins-some a_profile [] profile-aside profile-passes)
begins-of (x ∷ xs) a t = begins-some x xs a t

-- THE THEOREM for class A: the clauses compute whether elements begin a run in order, and whether they are in order.
pub begins-exactly : (front : List Element) → LimitsAside front → (begins_a front ≡ true) ↔ Begins A front
begins-exactly front a = (begins-of front a, begins-told front)

pub ordered-exactly : (elements : List Element) → (ordered_a elements ≡ true) ↔ InOrderA elements
ordered-exactly elements = (ordered-told elements, ordered_of elements)
