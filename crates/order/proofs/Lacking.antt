-- With a unit for each portion that is missing the elements are still such as a letter has, limits aside: such a unit's name is unused, since
-- a unit that had it would represent the portion; and no two portions of one side have one name.
use mathlib.Core.Path.{◌≡◌, refl, ap, sym, ◌∙◌, subst}
use mathlib.Core.Logic.{◌⊎◌, inl, inr}
use mathlib.Core.Bool.{Bool, true, false, cond, not, ◌&&◌, false≢true, true≢false}
use mathlib.Core.List.Memᴰ
use mathlib.Core.List.{List, [], ◌∷◌, ◌++◌, map}
use Prim.Native.Nat.{ℕ}
use native.Mathlib.Omega.{arith}
use lib.Dec.{eqb, leb}
use lib.ListN.{length}
use borrow.Author.Tests.{not-true}
use borrow.Table.Steps.{cases}
use Rattle.headers.specs.Head.{is_in}
use Rattle.names.specs.Names.{space_byte, same, is_digit, all_digits, grouped, longest_portion, is_portion}
use Rattle.names.proofs.Same.{same_refl}
use Rattle.names.proofs.Joined.{joined-parts}
use Rattle.rows.specs.Rows.{name_space_of}
use Rattle.contents.specs.Search.{Value, absent, octets}
use Rattle.portions.specs.Portions.{all, any, among, repeats}
use Rattle.elements.specs.Judge.{Element, clash}
use Rattle.reading.specs.declared.Side.{Side}
use Rattle.reading.specs.declared.Side.TheVariants.{Layout, Logical}
use Rattle.reading.specs.Match.{unit_kind, name_on}
use Rattle.order.specs.Represents.{◌∈◌, present, named, side_of, represents, is_represented, listing, spelt_aside, FitAside, NoClash, LimitsAside, Listed}
use Rattle.order.specs.Represents.{listing_of, everything, keep}
use Rattle.order.specs.Missing.{missing, label, unit_named, unit_for, lacking}
use Rattle.order.proofs.Tests.{both, all_in, any_of}
use Rattle.order.proofs.Representing.{represents-told, represents-of, represented-of, listing-side, side-space, unit-space, Clashing, clash-told}
use Rattle.order.proofs.Representing.{clash-of}

-- what is kept
module _ {A : Type 0} (test : A → Bool) where
  pub keep-in : (xs : List A) (x : A) → x ∈ keep test xs → (x ∈ xs) × (test x ≡ true)
  unfolding keep
  keep-in [] x m = absurd (Memᴰ.not-nil m)
  keep-in (y ∷ xs) x m =
      cases (test y) (λ t. first t (keep-in xs x) (Memᴰ.cases_cons (rw t at m)))
      (λ t. let r = keep-in xs x (rw t at m) in (Memᴰ.tail r.0, r.1))
    where
      first : test y ≡ true → (x ∈ keep test xs → (x ∈ xs) × (test x ≡ true)) → (x ≡ y) ⊎ (x ∈ keep test xs) → (x ∈ y ∷ xs) × (test x ≡ true)
      first t below (inl e) = (Memᴰ.head e, ap test e ∙ t)
      first t below (inr n) = let r = below n in (Memᴰ.tail r.0, r.1)

  pub keep-of : (xs : List A) (x : A) → x ∈ xs → test x ≡ true → x ∈ keep test xs
  unfolding keep
  keep-of [] x m t = absurd (Memᴰ.not-nil m)
  keep-of (y ∷ xs) x m t = step (λ n. keep-of xs x n t) (Memᴰ.cases_cons m)
    where
      step : (x ∈ xs → x ∈ keep test xs) → (x ≡ y) ⊎ (x ∈ xs) → x ∈ cond (test y) (y ∷ keep test xs) (keep test xs)
      step below (inl e) = let u : test y ≡ true = ap test (sym e) ∙ t in rw u (Memᴰ.head e)
      step below (inr n) = cases (test y) (λ u. rw u (Memᴰ.tail (below n))) (λ u. rw u (below n))

-- what is listed
pub everything-in : (es : List Element) (l : Listed) → l ∈ everything es → (l.by ∈ es) × (l.portion ∈ l.by.portions)
unfolding everything
everything-in [] l m = absurd (Memᴰ.not-nil m)
everything-in (e ∷ es) l m = step (everything-in es l) (Memᴰ.append_cases (listing_of e e.portions) m)
  where
    first : ((p : List ℕ) × (p ∈ e.portions) × (record { by = e; portion = p } ≡ l)) → (l.by ∈ e ∷ es) × (l.portion ∈ l.by.portions)
    first (p, n, q) = (Memᴰ.head (ap (λ (k : Listed). k.by) (sym q)), subst (λ (k : Listed). k.portion ∈ k.by.portions) q n)

    step : (l ∈ everything es → (l.by ∈ es) × (l.portion ∈ l.by.portions)) → (l ∈ listing_of e e.portions) ⊎ (l ∈ everything es)
        → (l.by ∈ e ∷ es) × (l.portion ∈ l.by.portions)
    step below (inl n) = first (Memᴰ.of_map (λ (p : List ℕ). record { by = e; portion = p }) e.portions n)
    step below (inr n) = let r = below n in (Memᴰ.tail r.0, r.1)

pub everything-of : (es : List Element) (e : Element) (p : List ℕ) → e ∈ es → p ∈ e.portions
    → ◌∈◌ {A = Listed} (record { by = e; portion = p }) (everything es)
unfolding everything
everything-of [] e p m n = absurd (Memᴰ.not-nil m)
everything-of (d ∷ es) e p m n = step (λ o. everything-of es e p o n) (Memᴰ.cases_cons m)
  where
    this : Element → Listed
    this x = record { by = x; portion = p }

    step : (e ∈ es → this e ∈ everything es) → (e ≡ d) ⊎ (e ∈ es) → this e ∈ listing_of d d.portions ++ everything es
    step below (inl q) = Memᴰ.append_left (everything es)
        (subst (λ (x : Element). this e ∈ listing_of x x.portions) q (Memᴰ.map (λ (r : List ℕ). record { by = e; portion = r }) n))
    step below (inr o) = Memᴰ.append_right (listing_of d d.portions) (below o)

pub record Missing (es : List Element) (l : Listed) : Type 0 where
  pub by : l.by ∈ es
  pub listed : l.portion ∈ l.by.portions
  pub unrepresented : is_represented es l.by l.portion ≡ false

pub missing-told : (es : List Element) (l : Listed) → l ∈ missing es → Missing es l
unfolding missing
missing-told es l m =
    let r = keep-in (λ (k : Listed). not (is_represented es k.by k.portion)) (everything es) l m in
    let q = everything-in es l r.0 in
    record { by = q.0; listed = q.1; unrepresented = not-true (is_represented es l.by l.portion) r.1 }

pub missing-of : (es : List Element) (e : Element) (p : List ℕ) → e ∈ es → p ∈ e.portions → is_represented es e p ≡ false
    → ◌∈◌ {A = Listed} (record { by = e; portion = p }) (missing es)
unfolding missing
missing-of es e p m n u =
    keep-of (λ (k : Listed). not (is_represented es k.by k.portion)) (everything es) (record { by = e; portion = p }) (everything-of es e p m n) (rw u)

-- what an element with an identifier says
pub present-told : (v : Value) → present v ≡ true → (bytes : List ℕ) × (v ≡ octets bytes)
present-told absent t = absurd (false≢true t)
present-told (octets bytes) t = (bytes, refl)

pub lister-kind : (e : Element) → FitAside e → (p : List ℕ) → p ∈ e.portions → is_in e.kind listing ≡ true
lister-kind e f p m = which f.lists
  where
    which : (is_in e.kind listing ≡ true) ⊎ (e.portions ≡ []) → is_in e.kind listing ≡ true
    which (inl t) = t
    which (inr n) = absurd (Memᴰ.not-nil (rw n at m))

-- the names of a made unit
made-name : (s : Side) (v : Value) → name_on s (unit_named s v) ≡ v
made-name Layout v = refl
made-name Logical v = refl

made-kind : (s : Side) (v : Value) → (unit_named s v).kind ≡ unit_kind
made-kind Layout v = refl
made-kind Logical v = refl

made-side : (s t : Side) (v : Value) (bytes : List ℕ) → name_on t (unit_named s v) ≡ octets bytes → (t ≡ s) × (v ≡ octets bytes)
made-side Layout Layout v bytes e = (refl, e)
made-side Layout Logical v bytes e = let z : ◌≡◌ {A = ℕ} 0 1 = cc in absurd (omega arith)
made-side Logical Layout v bytes e = let z : ◌≡◌ {A = ℕ} 0 1 = cc in absurd (omega arith)
made-side Logical Logical v bytes e = (refl, e)

pub unit-for-kind : (l : Listed) → (unit_for l).kind ≡ unit_kind
unfolding unit_for
unit-for-kind l = made-kind (side_of l.by) (label l.by.identifier l.portion)

bare-side : (s : Side) (v : Value) → (unit_named s v).portions ≡ []
bare-side Layout v = refl
bare-side Logical v = refl

pub unit-for-bare : (l : Listed) → (unit_for l).portions ≡ []
unfolding unit_for
unit-for-bare l = bare-side (side_of l.by) (label l.by.identifier l.portion)

-- the unit for a portion represents it
pub unit-for-represents : (l : Listed) → FitAside l.by → l.portion ∈ l.by.portions → named l.by ≡ true
    → represents l.by l.portion (unit_for l) ≡ true
unfolding unit_for
unit-for-represents l f m n =
    let r = present-told l.by.identifier n in
    represents-of l.by l.portion (unit_for l)
    (record {
      on_side = listing-side l.by.kind (lister-kind l.by f l.portion m);
      of_unit = made-kind (side_of l.by) (label l.by.identifier l.portion);
      identifier = r.0;
      named = r.1;
      spelt = made-name (side_of l.by) (label l.by.identifier l.portion) ∙ ap (λ (v : Value). label v l.portion) r.1;
    })

-- and no portion of the other side
pub unit-for-side : (l : Listed) (e : Element) (p : List ℕ) → represents e p (unit_for l) ≡ true → side_of e ≡ side_of l.by
unfolding unit_for
unit-for-side l e p t =
    let j = represents-told e p (unit_for l) t in
    (made-side (side_of l.by) (side_of e) (label l.by.identifier l.portion) (j.identifier ++ space_byte ∷ p) j.spelt).0

-- no two portions of one side have one name
abbrev pub Apart : Listed → Listed → Type 0
Apart l k = side_of l.by ≡ side_of k.by → (bytes : List ℕ) → label l.by.identifier l.portion ≡ octets bytes
    → label k.by.identifier k.portion ≡ octets bytes → ⊥

abbrev pub AllApart : List Listed → Type 0
AllApart [] = Unit {0}
AllApart (l ∷ ls) = ((k : Listed) → k ∈ ls → Apart l k) × AllApart ls

pub apart-keep : (test : Listed → Bool) (ls : List Listed) → AllApart ls → AllApart (keep test ls)
unfolding keep
apart-keep test [] a = tt
apart-keep test (l ∷ ls) a =
    cases (test l) (λ t. rw t (λ k m. a.0 k (keep-in test ls k m).0, apart-keep test ls a.1)) (λ t. rw t (apart-keep test ls a.1))

apart-append : (ls ks : List Listed) → AllApart ls → AllApart ks → ((l k : Listed) → l ∈ ls → k ∈ ks → Apart l k) → AllApart (ls ++ ks)
apart-append [] ks a b c = b
apart-append (l ∷ ls) ks a b c =
    (λ k m. step k (Memᴰ.append_cases ls m), apart-append ls ks a.1 b (λ x k m n. c x k (Memᴰ.tail m) n))
  where
    step : (k : Listed) → (k ∈ ls) ⊎ (k ∈ ks) → Apart l k
    step k (inl m) = a.0 k m
    step k (inr m) = c l k (Memᴰ.head refl) m

-- a label tells the identifier and the portion
label-told : (v w : Value) (p q : List ℕ) (bytes : List ℕ) → is_portion p ≡ true → is_portion q ≡ true → label v p ≡ octets bytes → label w q ≡ octets bytes
    → (p ≡ q) × ((id : List ℕ) × (v ≡ octets id) × (w ≡ octets id))
label-told absent w p q bytes a b e f = let z : ◌≡◌ {A = ℕ} 0 1 = cc in absurd (omega arith)
label-told (octets x) absent p q bytes a b e f = let z : ◌≡◌ {A = ℕ} 0 1 = cc in absurd (omega arith)
label-told (octets x) (octets y) p q bytes a b e f =
    let g : x ++ space_byte ∷ p ≡ y ++ space_byte ∷ q = cc in
    let r = joined-parts x y p q a b g in
    (r.1, (y, ap octets r.0, refl))

-- of one element, since it lists no portion twice
apart-listed : (e : Element) (ps : List (List ℕ)) → all (map is_portion ps) ≡ true → repeats ps ≡ false → AllApart (listing_of e ps)
unfolding repeats among
apart-listed e [] a r = tt
apart-listed e (p ∷ ps) a r =
    let spelt = both (is_portion p) (all (map is_portion ps)) a in
    let rest : repeats ps ≡ false = cases (any (map (same p) ps)) (λ t. absurd (true≢false (rw t at r))) (λ t. rw t at r) in
    (λ k m. first k spelt.0 spelt.1 (Memᴰ.of_map (λ (q : List ℕ). record { by = e; portion = q }) ps m), apart-listed e ps spelt.1 rest)
  where
    first : (k : Listed) → is_portion p ≡ true → all (map is_portion ps) ≡ true
        → ((q : List ℕ) × (q ∈ ps) × (record { by = e; portion = q } ≡ k)) → Apart (record { by = e; portion = p }) k
    first k sp sps (q, n, i) =
        subst (Apart (record { by = e; portion = p })) i
        (λ _ bytes x y. let t = (label-told e.identifier e.identifier p q bytes sp (all_in is_portion ps sps q n) x y).0 in
        let u : any (map (same p) ps) ≡ true = any_of (same p) ps q n (ap (same p) (sym t) ∙ same_refl p) in
        true≢false (rw u at r))

-- of two elements, since they do not clash
pub apart-everything : (es : List Element) → LimitsAside es → AllApart (everything es)
unfolding everything
apart-everything [] a = tt
apart-everything (e ∷ es) a =
    let here = a.fit e (Memᴰ.head refl) in
    let later : LimitsAside es = record { fit = λ x m. a.fit x (Memᴰ.tail m); apart = a.apart.1 } in
    apart-append (listing_of e e.portions) (everything es) (apart-listed e e.portions here.portions here.once) (apart-everything es later)
    (λ l k m n s bytes x y. cross here l k (Memᴰ.of_map (λ (q : List ℕ). record { by = e; portion = q }) e.portions m) (everything-in es k n) s bytes x y)
  where
    cross : FitAside e → (l k : Listed) → ((q : List ℕ) × (q ∈ e.portions) × (record { by = e; portion = q } ≡ l)) → (k.by ∈ es)
        × (k.portion ∈ k.by.portions) → Apart l k
    cross here l k (q, n, i) (o, m) =
        subst (λ (x : Listed). Apart x k) i
        (λ s bytes x y.
        let there = a.fit k.by (Memᴰ.tail o) in
        let t = (label-told e.identifier k.by.identifier q k.portion bytes (all_in is_portion e.portions here.portions q n)
        (all_in is_portion k.by.portions there.portions k.portion m) x y).1 in
        let z : name_space_of e.kind ≡ name_space_of k.by.kind =
        side-space (side_of e) e.kind (listing-side e.kind (lister-kind e here q n))
        ∙ sym (side-space (side_of k.by) k.by.kind (listing-side k.by.kind (lister-kind k.by there k.portion m))) in
        true≢false (sym (clash-of e k.by t.0 z t.1 t.2) ∙ a.apart.0 k.by o))

-- so the units for them do not clash,
units-apart : (ls : List Listed) → AllApart ls → NoClash (map unit_for ls)
unfolding unit_for
units-apart [] a = tt
units-apart (l ∷ ls) a = (λ u m. step u (Memᴰ.of_map unit_for ls m), units-apart ls a.1)
  where
    clashing : (k : Listed) → Apart l k → Clashing (unit_for l) (unit_for k) → ⊥
    clashing k b c =
        let r = made-side (side_of l.by) c.side (label l.by.identifier l.portion) c.bytes c.left in
        let t = made-side (side_of k.by) c.side (label k.by.identifier k.portion) c.bytes c.right in
        b (sym r.0 ∙ t.0) c.bytes r.1 t.1

    step : (u : Element) → ((k : Listed) × (k ∈ ls) × (unit_for k ≡ u)) → clash (unit_for l) u ≡ false
    step u (k, n, i) = subst (λ (x : Element). clash (unit_for l) x ≡ false) i
        (cases (clash (unit_for l) (unit_for k)) (λ t. absurd (clashing k (a.0 k n) (clash-told (unit_for l) (unit_for k) t))) (λ t. t))

unit-space-is : name_space_of unit_kind ≡ 2
unfolding name_space_of
unit-space-is = refl

label-named : (v : Value) (p bytes : List ℕ) → label v p ≡ octets bytes → (id : List ℕ) × (v ≡ octets id)
label-named absent p bytes e = let z : ◌≡◌ {A = ℕ} 0 1 = cc in absurd (omega arith)
label-named (octets id) p bytes e = (id, refl)

-- nor with what is there
unit-new : (es : List Element) (l : Listed) → Missing es l → FitAside l.by → (e : Element) → e ∈ es → clash e (unit_for l) ≡ false
unfolding unit_for
unit-new es l miss f e m = cases (clash e (unit_for l)) (λ t. absurd (clashing (clash-told e (unit_for l) t))) (λ t. t)
  where
    clashing : Clashing e (unit_for l) → ⊥
    clashing c =
        let r = made-side (side_of l.by) c.side (label l.by.identifier l.portion) c.bytes c.right in
        let k : name_space_of (unit_for l).kind ≡ 2 = ap name_space_of (unit-for-kind l) ∙ unit-space-is in
        let unit : e.kind ≡ unit_kind = unit-space e.kind (c.spaced ∙ k) in
        let n = label-named l.by.identifier l.portion c.bytes r.1 in
        let name : name_on (side_of l.by) e ≡ octets (n.0 ++ space_byte ∷ l.portion) =
        ap (λ (s : Side). name_on s e) (sym r.0) ∙ c.left ∙ sym r.1 ∙ ap (λ (v : Value). label v l.portion) n.1 in
        let t = represents-of l.by l.portion e
        (record {
          on_side = listing-side l.by.kind (lister-kind l.by f l.portion miss.listed);
          of_unit = unit;
          identifier = n.0;
          named = n.1;
          spelt = name;
        }) in
        true≢false (sym (represented-of es l.by l.portion e m t) ∙ miss.unrepresented)

pub no-clash-append : (xs ys : List Element) → NoClash xs → NoClash ys → ((x y : Element) → x ∈ xs → y ∈ ys → clash x y ≡ false) → NoClash (xs ++ ys)
no-clash-append [] ys a b c = b
no-clash-append (x ∷ xs) ys a b c =
    (λ y m. step y (Memᴰ.append_cases xs m), no-clash-append xs ys a.1 b (λ z y m n. c z y (Memᴰ.tail m) n))
  where
    step : (y : Element) → (y ∈ xs) ⊎ (y ∈ ys) → clash x y ≡ false
    step y (inl m) = a.0 y m
    step y (inr m) = c x y (Memᴰ.head refl) m

-- an identifier, a space and a portion are well spelt
digits-grouped : (ps : List ℕ) → all_digits ps ≡ true → grouped true ps ≡ true
unfolding all_digits grouped
digits-grouped [] t = refl
digits-grouped (p ∷ ps) t = let r = both (is_digit p) (all_digits ps) t in rw r.0 (digits-grouped ps r.1)

portion-grouped : (ps : List ℕ) → is_portion ps ≡ true → grouped false ps ≡ true
unfolding is_portion all_digits grouped
portion-grouped [] t = t
portion-grouped (p ∷ ps) t =
    let r = (both (leb 1 (length (p ∷ ps)) && leb (length (p ∷ ps)) longest_portion) (all_digits (p ∷ ps)) t).1 in
    let q = both (is_digit p) (all_digits ps) r in
    rw q.0 (digits-grouped ps q.1)

joined-grouped : (b : Bool) (xs ps : List ℕ) → grouped b xs ≡ true → grouped false ps ≡ true → grouped b (xs ++ space_byte ∷ ps) ≡ true
unfolding grouped is_digit
joined-grouped true [] ps g p = p
joined-grouped false [] ps g p = absurd (false≢true g)
joined-grouped b (x ∷ xs) ps g p =
    cases (is_digit x) (λ t. rw t (joined-grouped true xs ps (rw t at g) p))
    (λ t. let r : eqb x space_byte && b && grouped false xs ≡ true = rw t at g in
    let q = both (eqb x space_byte && b) (grouped false xs) r in
    rw (t, q.0) (joined-grouped false xs ps q.1 p))

label-spelt : (v : Value) (p : List ℕ) → spelt_aside v ≡ true → is_portion p ≡ true → spelt_aside (label v p) ≡ true
label-spelt absent p s t = refl
label-spelt (octets x) p s t = joined-grouped false x p s (portion-grouped p t)

made-fit : (s : Side) (v : Value) → spelt_aside v ≡ true → FitAside (unit_named s v)
unfolding repeats
made-fit Layout v t = record { identifier = t; logical = refl; portions = refl; once = refl; lists = inr refl }
made-fit Logical v t = record { identifier = refl; logical = t; portions = refl; once = refl; lists = inr refl }

unit-fit : (l : Listed) → FitAside l.by → l.portion ∈ l.by.portions → FitAside (unit_for l)
unfolding unit_for
unit-fit l f m = made-fit (side_of l.by) (label l.by.identifier l.portion)
    (label-spelt l.by.identifier l.portion f.identifier (all_in is_portion l.by.portions f.portions l.portion m))

-- what lacks is a unit for a missing portion
pub lacking-told : (es : List Element) (u : Element) → u ∈ lacking es → (l : Listed) × (l ∈ missing es) × (unit_for l ≡ u)
unfolding lacking
lacking-told es u m = Memᴰ.of_map unit_for (missing es) m

pub lacking-of : (es : List Element) (l : Listed) → l ∈ missing es → unit_for l ∈ lacking es
unfolding lacking
lacking-of es l m = Memᴰ.map unit_for m

-- the front with all that it lacks
pub lacking-aside : (es : List Element) → LimitsAside es → LimitsAside (es ++ lacking es)
unfolding lacking missing
lacking-aside es a =
    record {
      fit = λ e m. fit e (Memᴰ.append_cases es m);
      apart = no-clash-append es (lacking es) a.apart
          (units-apart (missing es) (apart-keep (λ l. not (is_represented es l.by l.portion)) (everything es) (apart-everything es a)))
          (λ e u m n. new e m u (lacking-told es u n));
    }
  where
    fit-made : (u : Element) → ((l : Listed) × (l ∈ missing es) × (unit_for l ≡ u)) → FitAside u
    fit-made u (l, m, i) = let r = missing-told es l m in subst FitAside i (unit-fit l (a.fit l.by r.by) r.listed)

    fit : (e : Element) → (e ∈ es) ⊎ (e ∈ lacking es) → FitAside e
    fit e (inl m) = a.fit e m
    fit e (inr m) = fit-made e (lacking-told es e m)

    new : (e : Element) → e ∈ es → (u : Element) → ((l : Listed) × (l ∈ missing es) × (unit_for l ≡ u)) → clash e u ≡ false
    new e m u (l, n, i) = let r = missing-told es l n in subst (λ (x : Element). clash e x ≡ false) i (unit-new es l r (a.fit l.by r.by) e m)
