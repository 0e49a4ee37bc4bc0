-- A stream is refused by the first of 1 to 15 whose condition holds: of one element the first of its rules that refuses counts, and the
-- judge goes over the elements in order. So it finds a refusal of the first element that has one, and there is only one such refusal.
-- The judge tests for 10 by the octet of a shape, which is 0 where no shape is found: no item of a stream has the octet 0.
use mathlib.Core.Path.{◌≡◌, refl, ap, sym, ◌∙◌, subst}
use mathlib.Core.Logic.{◌↔◌}
use mathlib.Core.Bool.{Bool, true, false, cond, not, xor, true≢false, false≢true}
use mathlib.Core.List.{List, [], ◌∷◌, ◌++◌, map, map-append}
use mathlib.Core.Option.{some}
use Prim.Native.Nat.{ℕ, zero, suc, ◌+◌, ◌<◌, ◌≤◌}
use native.Mathlib.Omega.{arith}
use lib.Dec.{eqb, leb}
use lib.ListN.{length, take, drop, get_elem?, length-map}
use borrow.Author.Tests.{eqb-true, eqb-false, eq-eqb, ne_eqb, le-leb, lt-leb, leb-true, leb-false, not-true}
use borrow.Table.Steps.{cases}
use Rattle.octets.specs.Told.{ended, refused as faulty}
use Rattle.octets.specs.Walk.{count, stream_limit, deepest, End, ends, stops, Walked, run, answer, walk_of}
use Rattle.octets.specs.Rules.{Runs}
use Rattle.octets.proofs.RulesHold.{derived, derives}
use Rattle.tree.specs.Tree.{Tree, empty, leaf, branch, tree_of}
use Rattle.contents.specs.Search.{is, amount}
use Rattle.elements.specs.declared.Edition.{Edition}
use Rattle.elements.specs.Shape.{Shape, Shapes, shapes_of, shape_in, shape_of}
use Rattle.elements.specs.Judge.{type_octet, types_of, value_at, Element, as_tabled, type_fits, names_fit, most_elements, profile_octet, twice, Rule, ◌when◌, first_of}
use Rattle.elements.specs.Judge.{refusal_of, Judged, accepted, refused, judge_one, judge_from, judge}
use Rattle.elements.specs.ElementRows.{place_of}
use Rattle.elements.proofs.Zero.{none-zero}
use Rattle.letters.specs.Letter.{refusal, items_of_stream, after_walk, by_walk, letter_in}
use Rattle.judging.proofs.Lists.{below_length}
use Rattle.letters.proofs.Letters.{refused-walk, refused-element}
use Rattle.promises.specs.Refusals.{TopItem, top_items, contents_in, says_in, Refuses, too_many, unknown, no_profile, later_profile, misshapen, mistyped}
use Rattle.promises.specs.Refusals.{misspelt, repeated, RefusedAt, RefusedBy, no_element, at_element, RefusedWith, too_long, at_fault, by_element}

-- a rule of a list refuses
data Fires : List Rule → ℕ → Type 0 where
  here : {r : Rule} {rs : List Rule} → r.refuses ≡ true → Fires (r ∷ rs) r.number
  later : {r : Rule} {rs : List Rule} {n : ℕ} → Fires rs n → Fires (r ∷ rs) n

-- the numbers of a list rise, from above k
abbrev Rises : ℕ → List Rule → Type 0
Rises k [] = Unit {0}
Rises k (r ∷ rs) = (k < r.number) × Rises r.number rs

fires-above : (k : ℕ) (rs : List Rule) → Rises k rs → (n : ℕ) → Fires rs n → k < n
fires-above k [] up n f = elim f [ ]
fires-above k (r ∷ rs) (l, up) n (here t) = l
fires-above k (r ∷ rs) (l, up) n (later f) = let m = fires-above r.number rs up n f in omega arith

-- a number is 0 and no rule refuses, or it is that of the first which does
data FirstIs (rs : List Rule) : ℕ → Type 0 where
  none_fires : ((n : ℕ) → Fires rs n → ⊥) → FirstIs rs 0
  first_fires : {number : ℕ} → 0 < number → Fires rs number → ((n : ℕ) → n < number → Fires rs n → ⊥) → FirstIs rs number

no-rule : (rs : List Rule) → rs ≡ [] → (n : ℕ) → Fires rs n → ⊥
no-rule [] e n f = elim f [ ]
no-rule (r ∷ rs) e n f = let z : ◌≡◌ {A = ℕ} 0 1 = cc in omega arith

lowest : (r : Rule) (rs : List Rule) → Rises r.number rs → (n : ℕ) → n < r.number → Fires (r ∷ rs) n → ⊥
lowest r rs up n l (here t) = omega arith
lowest r rs up n l (later f) = let m = fires-above r.number rs up n f in omega arith

skips : (r : Rule) (rs : List Rule) → r.refuses ≡ false → (n : ℕ) → Fires (r ∷ rs) n → Fires rs n
skips r rs e n (here t) = absurd (true≢false (sym t ∙ e))
skips r rs e n (later f) = f

skipped : (r : Rule) (rs : List Rule) → r.refuses ≡ false → {number : ℕ} → FirstIs rs number → FirstIs (r ∷ rs) number
skipped r rs e (none_fires never) = none_fires (λ n f. never n (skips r rs e n f))
skipped r rs e (first_fires above f earlier) = first_fires above (later f) (λ n l g. earlier n l (skips r rs e n g))

first-is : (k : ℕ) (rs : List Rule) → Rises k rs → FirstIs rs (first_of rs)
first-is k [] up = none_fires (no-rule [] refl)
first-is k (r ∷ rs) (l, up) =
    cases r.refuses
    (λ t.
    let e : first_of (r ∷ rs) ≡ r.number = rw t in
    subst (FirstIs (r ∷ rs)) (sym e) (first_fires {number = r.number} (omega arith) (here t) (lowest r rs up)))
    (λ t. let e : first_of (r ∷ rs) ≡ first_of rs = rw t in subst (FirstIs (r ∷ rs)) (sym e) (skipped r rs t (first-is r.number rs up)))

xor-true : (a b : Bool) → xor a b ≡ true → a ≡ not b
unfolding xor
xor-true true true e = absurd (false≢true e)
xor-true true false e = refl
xor-true false true e = refl
xor-true false false e = absurd (false≢true e)

-- the octet of the shape that is found for a type field is that field's, if some shape has it
module _ (type : List ℕ) where
  listed_by : (shapes : Shapes) → is (shape_in shapes type).octet type ≡ false → (k : ℕ) (shape : Shape) → get_elem? shapes k ≡ some shape
      → is shape.octet type ≡ false
  listed_by [] e k shape there = let z : ◌≡◌ {A = ℕ} 0 1 = cc in absurd (omega arith)
  listed_by (first ∷ more) e zero shape there =
      let same : first ≡ shape = cc in
      cases (is first.octet type)
      (λ t.
      let found : shape_in (first ∷ more) type ≡ first = rw t in
      absurd (true≢false (sym (ap (λ (x : Shape). is x.octet type) found ∙ t) ∙ e)))
      (λ t. subst (λ (x : Shape). is x.octet type ≡ false) same t)
  listed_by (first ∷ more) e (suc k) shape there =
      cases (is first.octet type)
      (λ t.
      let found : shape_in (first ∷ more) type ≡ first = rw t in
      absurd (true≢false (sym (ap (λ (x : Shape). is x.octet type) found ∙ t) ∙ e)))
      (λ t.
      let found : shape_in (first ∷ more) type ≡ shape_in more type = rw t in
      listed_by more (sym (ap (λ (x : Shape). is x.octet type) found) ∙ e) k shape there)

  -- if none has it, the field is not 0
  unlisted-by : (shapes : Shapes) → is 0 type ≡ false → ((k : ℕ) (shape : Shape) → get_elem? shapes k ≡ some shape → is shape.octet type ≡ false)
      → is (shape_in shapes type).octet type ≡ false
  unlisted-by [] other without = other
  unlisted-by (first ∷ more) other without =
      let t = without zero first refl in
      let found : shape_in (first ∷ more) type ≡ shape_in more type = rw t in
      ap (λ (x : Shape). is x.octet type) found ∙ unlisted-by more other (λ k shape there. without (suc k) shape there)

  pub unlisted : (edition : Edition) → is (shape_of edition type).octet type ≡ false → (k : ℕ) (shape : Shape) → get_elem? (shapes_of edition) k ≡ some shape
      → is shape.octet type ≡ false
  unfolding shape_of
  unlisted edition e = listed_by (shapes_of edition) e

  not_found : (edition : Edition) → is 0 type ≡ false → ((k : ℕ) (shape : Shape) → get_elem? (shapes_of edition) k ≡ some shape → is shape.octet type ≡ false)
      → is (shape_of edition type).octet type ≡ false
  unfolding shape_of
  not_found edition other without = unlisted-by (shapes_of edition) other without

module _ (edition : Edition) (before : List TopItem) (item : TopItem) where
  abbrev done : List Element
  done = map (says_in edition) before

  counted : length done ≡ length before
  counted = length-map before (says_in edition)

  -- the rules of an element, as the judge has them
  abbrev rules : List Rule
  rules =
      let shape = shape_of edition item.type in
      (9 when leb most_elements (length done))
      ∷ (10 when not (is shape.octet item.type))
      ∷ (11 when xor (eqb (length done) 0) (is profile_octet item.type))
      ∷ (12 when not (as_tabled shape.contents item.run))
      ∷ (13 when not (type_fits (types_of shape.contents) (value_at (type_octet shape.contents) item.run)))
      ∷ (14 when not (names_fit (says_in edition item)))
      ∷ (15 when twice done (says_in edition item))
      ∷ []

  no-or-later : xor (eqb (length done) 0) (is profile_octet item.type) ≡ true → Refuses edition before item 11
  no-or-later t =
      let e = xor-true (eqb (length done) 0) (is profile_octet item.type) t in
      cases (is profile_octet item.type)
      (λ p. let q : eqb (length done) 0 ≡ false = e ∙ ap not p in let nonzero = eqb-false (length done) 0 q in later_profile (omega (arith, counted)) p)
      (λ p. let q : eqb (length done) 0 ≡ true = e ∙ ap not p in no_profile (sym counted ∙ eqb-true (length done) 0 q) p)

  fires-refuses : (n : ℕ) → Fires rules n → Refuses edition before item n
  fires-refuses n (here t) = too_many (let l = leb-true most_elements (length done) t in omega (arith, counted))
  fires-refuses n (later (here t)) = unknown (unlisted item.type edition (not-true _ t))
  fires-refuses n (later (later (here t))) = no-or-later t
  fires-refuses n (later (later (later (here t)))) = misshapen (not-true _ t)
  fires-refuses n (later (later (later (later (here t))))) = mistyped (not-true _ t)
  fires-refuses n (later (later (later (later (later (here t)))))) = misspelt (not-true _ t)
  fires-refuses n (later (later (later (later (later (later (here t))))))) = repeated t
  fires-refuses n (later (later (later (later (later (later (later f))))))) = absurd (no-rule [] refl n f)

  refuses-fires : is 0 item.type ≡ false → (n : ℕ) → Refuses edition before item n → Fires rules n
  unfolding xor
  refuses-fires other n (too_many l) = here (le-leb most_elements (length done) (omega (arith, counted)))
  refuses-fires other n (unknown e) = later (here (ap not (not_found item.type edition other e)))
  refuses-fires other n (no_profile z e) =
      let f : xor (eqb (length done) 0) (is profile_octet item.type) ≡ true = rw (eq-eqb (length done) 0 (counted ∙ z), e) in
      later (later (here f))
  refuses-fires other n (later_profile l e) =
      let nonzero : length done ≡ 0 → ⊥ = λ z. omega (arith, counted) in
      let f : xor (eqb (length done) 0) (is profile_octet item.type) ≡ true = rw (ne_eqb (length done) 0 nonzero, e) in
      later (later (here f))
  refuses-fires other n (misshapen e) = later (later (later (here (ap not e))))
  refuses-fires other n (mistyped e) = later (later (later (later (here (ap not e)))))
  refuses-fires other n (misspelt e) = later (later (later (later (later (here (ap not e))))))
  refuses-fires other n (repeated t) = later (later (later (later (later (later (here t))))))

  abbrev number : ℕ
  number = refusal_of edition done item.type item.run

  number_is : FirstIs rules number
  unfolding refusal_of
  number_is = first-is 0 rules (omega arith, (omega arith, (omega arith, (omega arith, (omega arith, (omega arith, (omega arith, tt)))))))

  -- no rule of the judge refuses the element
  abbrev Passes : Type 0
  Passes = (n : ℕ) → Fires rules n → ⊥

  -- a rule does, and none before it
  abbrev First : ℕ → Type 0
  First m = Fires rules m × ((n : ℕ) → n < m → Fires rules n → ⊥)

  passes-by : {m : ℕ} → FirstIs rules m → m ≡ 0 → Passes
  passes-by (none_fires never) z n f = never n f
  passes-by (first_fires above f earlier) z n g = omega arith

  first_by : {m : ℕ} → FirstIs rules m → (m ≡ 0 → ⊥) → First m
  first_by (none_fires never) nonzero = absurd (nonzero refl)
  first_by (first_fires above f earlier) nonzero = (f, earlier)

-- what stands at k of a list
module _ {A : Type 0} where
  record Stands (items : List A) (k : ℕ) (item : A) (rest : List A) : Type 0 where
    there : get_elem? items k ≡ some item
    counted : length (take k items) ≡ k
    taken : take (suc k) items ≡ take k items ++ (item ∷ [])
    dropped : drop (suc k) items ≡ rest

  stands : (items : List A) (k : ℕ) (item : A) (rest : List A) → drop k items ≡ item ∷ rest → Stands items k item rest
  stands [] zero item rest e = let z : ◌≡◌ {A = ℕ} 0 1 = cc in absurd (omega arith)
  stands [] (suc k) item rest e = let z : ◌≡◌ {A = ℕ} 0 1 = cc in absurd (omega arith)
  stands (x ∷ items) zero item rest e =
      let p : x ≡ item = cc in
      let q : items ≡ rest = cc in
      record { there = ap some p; counted = refl; taken = ap (λ (y : A). y ∷ []) p; dropped = q }
  stands (x ∷ items) (suc k) item rest e =
      let o = stands items k item rest e in
      record { there = o.there; counted = ap suc o.counted; taken = ap (λ (ys : List A). x ∷ ys) o.taken; dropped = o.dropped }

  all-taken : (items : List A) (k : ℕ) → drop k items ≡ [] → (take k items ≡ items) × (length items ≤ k)
  all-taken [] zero e = (refl, omega arith)
  all-taken [] (suc k) e = (refl, omega arith)
  all-taken (x ∷ items) zero e = let z : ◌≡◌ {A = ℕ} 0 1 = cc in absurd (omega arith)
  all-taken (x ∷ items) (suc k) e = let o = all-taken items k e in (ap (λ (ys : List A). x ∷ ys) o.0, omega (arith, o.1))

module _ (edition : Edition) (items : List TopItem) where
  -- the elements before k pass
  abbrev PassBefore : ℕ → Type 0
  PassBefore k = (i : ℕ) (other : TopItem) → i < k → get_elem? items i ≡ some other → Passes edition (take i items) other

  -- a rule of the judge refuses element j, none before it does, and all before j pass
  record FiredAt (number j : ℕ) : Type 0 where
    item : TopItem
    there : get_elem? items j ≡ some item
    fires : Fires (rules edition (take j items) item) number
    no_earlier : (n : ℕ) → n < number → Fires (rules edition (take j items) item) n → ⊥
    all_before : PassBefore j

  -- what the judge says of the elements
  abbrev Describes : Judged → Type 0
  Describes (accepted elements) = (elements ≡ map (says_in edition) items) × PassBefore (length items)
  Describes (refused number j) = FiredAt number j

  one_more : (k : ℕ) (item : TopItem) → get_elem? items k ≡ some item → PassBefore k → Passes edition (take k items) item → PassBefore (suc k)
  one_more k item there earlier passes i other l at =
      cases (eqb i k)
      (λ t.
      let e = eqb-true i k t in
      let p : some item ≡ some other = sym there ∙ ap (get_elem? items) (sym e) ∙ at in
      let q : item ≡ other = cc in
      subst (λ (n : ℕ). Passes edition (take n items) other) (sym e) (subst (Passes edition (take k items)) q passes))
      (λ t. let n = eqb-false i k t in earlier i other (omega arith) at)

  -- one element, and what is said of those after it
  step : (k : ℕ) (item : TopItem) (rest : List TopItem) (more : List Element → Judged) → drop k items ≡ item ∷ rest → PassBefore k
      → (PassBefore (suc k) → drop (suc k) items ≡ rest → Describes (more (map (says_in edition) (take (suc k) items))))
      → Describes (judge_one edition (map (says_in edition) (take k items)) item.type item.run more)
  unfolding judge_one
  step k item rest more e earlier after =
      let o = stands items k item rest e in
      let before = take k items in
      let is = number_is edition before item in
      let one-longer : map (says_in edition) (take (suc k) items) ≡ done edition before item ++ (says_in edition item ∷ []) =
      ap (map (says_in edition)) o.taken ∙ map-append (says_in edition) before (item ∷ []) in
      cases (eqb (number edition before item) 0)
      (λ t.
      let passes = passes-by edition before item is (eqb-true _ 0 t) in
      rw t (subst (λ (es : List Element). Describes (more es)) one-longer (after (one_more k item o.there earlier passes) o.dropped)))
      (λ t.
      let first = first_by edition before item is (eqb-false _ 0 t) in
      let at : length (done edition before item) ≡ k = counted edition before item ∙ o.counted in
      rw (t, at) (record { item = item; there = o.there; fires = first.0; no_earlier = first.1; all_before = earlier }))

  describes-from : (k : ℕ) (t : Tree) → drop k items ≡ top_items t → PassBefore k → Describes (judge_from edition (map (says_in edition) (take k items)) t)
  unfolding judge_from
  describes-from k empty e earlier =
      let o = all-taken items k e in
      (ap (map (says_in edition)) o.0, λ i other l at. let m = below_length items i other at in earlier i other (omega (arith, o.1)) at)
  describes-from k (leaf type value after) e earlier =
      step k (record { type = type; run = empty }) (top_items after) (λ more. judge_from edition more after) e earlier
      (λ longer d. describes-from (suc k) after d longer)
  describes-from k (branch type inside after) e earlier =
      step k (record { type = type; run = inside }) (top_items after) (λ more. judge_from edition more after) e earlier
      (λ longer d. describes-from (suc k) after d longer)

  -- there is one refusal
  same_place : {n j m k : ℕ} → RefusedAt edition items n j → RefusedAt edition items m k → j ≡ k
  same_place {n} {j} {m} {k} a b =
      let not-below : j < k → ⊥ = λ l. b.all_before j a.item l a.there n a.refuses in
      let not-above : k < j → ⊥ = λ l. a.all_before k b.item l b.there m b.refuses in
      omega arith

  same_number : {n m j : ℕ} → RefusedAt edition items n j → RefusedAt edition items m j → n ≡ m
  same_number {n} {m} {j} a b =
      let p : some a.item ≡ some b.item = sym a.there ∙ b.there in
      let q : a.item ≡ b.item = cc in
      let not-below : n < m → ⊥ = λ l. b.no_earlier n l (subst (λ (x : TopItem). Refuses edition (take j items) x n) q a.refuses) in
      let not-above : m < n → ⊥ = λ l. a.no_earlier m l (subst (λ (x : TopItem). Refuses edition (take j items) x m) (sym q) b.refuses) in
      omega arith

-- no item of a tree has the octet 0
abbrev Typed : Tree → Type 0
Typed t = (i : ℕ) (item : TopItem) → get_elem? (top_items t) i ≡ some item → is 0 item.type ≡ false

typed-first : (type : List ℕ) (run : Tree) (n : ℕ) → cond (is 0 type) 1 0 + n ≡ 0 → (item : TopItem) → record { type = type; run = run } ≡ item
    → is 0 item.type ≡ false
typed-first type run n e item same =
    subst (λ (x : TopItem). is 0 x.type ≡ false) same
    (cases (is 0 type) (λ t. let one : cond (is 0 type) 1 0 + n ≡ 1 + n = rw t in absurd (omega (arith, sym one ∙ e))) (λ t. t))

typed-by : (t : Tree) → amount 0 t ≡ 0 → Typed t
unfolding amount
typed-by empty e i item there = let z : ◌≡◌ {A = ℕ} 0 1 = cc in absurd (omega arith)
typed-by (leaf type value after) e zero item there =
    let same : record { type = type; run = empty } ≡ item = cc in typed-first type empty (amount 0 after) e item same
typed-by (leaf type value after) e (suc i) item there = typed-by after (omega arith) i item there
typed-by (branch type inside after) e zero item there =
    let same : record { type = type; run = inside } ≡ item = cc in typed-first type inside (amount 0 after) e item same
typed-by (branch type inside after) e (suc i) item there = typed-by after (omega arith) i item there

pub typed-stream : (s : List ℕ) → Typed (tree_of s)
typed-stream s = typed-by (tree_of s) (none-zero (derives deepest s 0 (length s) false (omega arith)) 0 refl)

module _ (edition : Edition) where
  -- a rule of the judge refuses a tree
  data Fired (t : Tree) : (number j : ℕ) → Type 0 where
    no_items : t ≡ empty → Fired t 11 0
    at_item : {number j : ℕ} → FiredAt edition (top_items t) number j → Fired t number j

  -- and then it is refused as is said
  refused-from : (t : Tree) → Typed t → {n j : ℕ} → Fired t n j → RefusedBy edition t n j
  refused-from t typed (no_items e) = no_element e
  refused-from t typed {n} {j} (at_item f) =
      let items = top_items t in
      at_element (record {
        item = f.item;
        there = f.there;
        refuses = fires-refuses edition (take j items) f.item n f.fires;
        no_earlier = λ m l r. f.no_earlier m l (refuses-fires edition (take j items) f.item (typed j f.item f.there) m r);
        all_before = λ i other l at m r. f.all_before i other l at m (refuses-fires edition (take i items) other (typed i other at) m r);
      })

  -- what the judge says of a tree
  abbrev Tells : Tree → Judged → Type 0
  Tells t (accepted elements) = (elements ≡ map (says_in edition) (top_items t)) × PassBefore edition (top_items t) (length (top_items t)) × (t ≡ empty → ⊥)
  Tells t (refused number j) = Fired t number j

  from-items : (t : Tree) → (t ≡ empty → ⊥) → (j : Judged) → Describes edition (top_items t) j → Tells t j
  from-items t items-there (accepted elements) (e, all) = (e, all, items-there)
  from-items t items-there (refused _ _) at = at_item at

  from_first : (t : Tree) → Describes edition (top_items t) (judge_from edition [] t)
  from_first t = describes-from edition (top_items t) 0 t refl (λ i other l at. absurd (omega arith))

  judge-tells : (t : Tree) → Tells t (judge edition t)
  unfolding judge
  judge-tells empty = no_items refl
  judge-tells (leaf type value after) =
      let t = leaf type value after in from-items t (λ e. let z : ◌≡◌ {A = ℕ} 0 1 = cc in omega arith) (judge_from edition [] t) (from_first t)
  judge-tells (branch type inside after) =
      let t = branch type inside after in from-items t (λ e. let z : ◌≡◌ {A = ℕ} 0 1 = cc in omega arith) (judge_from edition [] t) (from_first t)

  none-there : (t : Tree) → t ≡ empty → {n j : ℕ} → RefusedAt edition (top_items t) n j → ⊥
  none-there t e {n} {j} at =
      let p : get_elem? [] j ≡ some at.item = sym (ap (λ (x : Tree). get_elem? (top_items x) j) e) ∙ at.there in
      let z : ◌≡◌ {A = ℕ} 0 1 = cc in
      omega arith

  only_one : (t : Tree) (n j m k : ℕ) → RefusedBy edition t n j → RefusedBy edition t m k → (n ≡ m) × (j ≡ k)
  only_one t n j m k (no_element e) (no_element f) = (refl, refl)
  only_one t n j m k (no_element e) (at_element b) = absurd (none-there t e b)
  only_one t n j m k (at_element a) (no_element f) = absurd (none-there t f a)
  only_one t n j m k (at_element a) (at_element b) =
      let p : j ≡ k = same_place edition (top_items t) a b in
      (same_number edition (top_items t) (subst (RefusedAt edition (top_items t) n) p a) b, p)

  not_both : (t : Tree) → Typed t → (elements : List Element) → Tells t (accepted elements) → (n j : ℕ) → RefusedBy edition t n j → ⊥
  not_both t typed elements (e, all, items-there) n j (no_element f) = items-there f
  not_both t typed elements (e, all, items-there) n j (at_element a) =
      all j a.item (below_length (top_items t) j a.item a.there) a.there n
      (refuses-fires edition (take j (top_items t)) a.item (typed j a.item a.there) n a.refuses)

  -- what the elements of an accepted tree say
  pub accepted-elements : (t : Tree) (elements : List Element) → judge edition t ≡ accepted elements → elements ≡ map (says_in edition) (top_items t)
  accepted-elements t elements e = (subst (Tells t) e (judge-tells t)).0

  -- no rule refuses one of them
  fires-none : (t : Tree) (elements : List Element) → judge edition t ≡ accepted elements → (i : ℕ) (item : TopItem)
      → get_elem? (top_items t) i ≡ some item → Passes edition (take i (top_items t)) item
  fires-none t elements e i item there = (subst (Tells t) e (judge-tells t)).1 i item (below_length (top_items t) i item there) there

  pub accepted-pass : (t : Tree) → Typed t → (elements : List Element) → judge edition t ≡ accepted elements → (i : ℕ) (item : TopItem)
      → get_elem? (top_items t) i ≡ some item → (n : ℕ) → Refuses edition (take i (top_items t)) item n → ⊥
  accepted-pass t typed elements e i item there n r =
      fires-none t elements e i item there n (refuses-fires edition (take i (top_items t)) item (typed i item there) n r)

  -- their contents are as tabled
  pub accepted-tabled : (t : Tree) (elements : List Element) → judge edition t ≡ accepted elements → (i : ℕ) (item : TopItem)
      → get_elem? (top_items t) i ≡ some item → as_tabled (contents_in edition item) item.run ≡ true
  accepted-tabled t elements e i item there =
      cases (as_tabled (contents_in edition item) item.run)
      (λ b. b)
      (λ b. absurd (fires-none t elements e i item there 12 (later (later (later (here (ap not b)))))))

  refused-by : (t : Tree) → Typed t → (n j : ℕ) → judge edition t ≡ refused n j → RefusedBy edition t n j
  refused-by t typed n j e = refused-from t typed (subst (Tells t) e (judge-tells t))

  pub by-refused : (t : Tree) → Typed t → (n j : ℕ) → RefusedBy edition t n j → (found : Judged) → judge edition t ≡ found → found ≡ refused n j
  by-refused t typed n j r (accepted elements) e = absurd (not_both t typed elements (subst (Tells t) e (judge-tells t)) n j r)
  by-refused t typed n j r (refused m k) e =
      let (p, q) = only_one t m k n j (refused-by t typed m k e) r in rw (p, q)

-- the stream
module _ (edition : Edition) (s : List ℕ) where
  abbrev top : Walked
  top = run deepest s 0 (length s) false

  rules-hold : Runs s deepest 0 (length s) false top.items top.how
  rules-hold = derives deepest s 0 (length s) false (omega arith)

  walked-over : stream_limit < length s → walk_of s ≡ faulty 1 0 0
  unfolding walk_of
  walked-over l = rw (lt-leb (length s) stream_limit l)

  walked-within : length s ≤ stream_limit → walk_of s ≡ answer top
  unfolding walk_of
  walked-within l = rw (le-leb (length s) stream_limit l)

  abbrev IsRefused : (number place : ℕ) → Type 0
  IsRefused number place = (headers : ℕ) × (letter_in edition s ≡ refusal number place headers)

  is-refused : {number place : ℕ} → RefusedWith edition s number place → IsRefused number place
  is-refused (too_long l) = (0, refused-walk edition s 1 0 0 (walked-over l))
  is-refused (at_fault {number} {place} {items} l runs) =
      let e : walk_of s ≡ faulty number place (count items) = walked-within l ∙ ap answer (sym (derived runs)) in
      (count items, refused-walk edition s number place (count items) e)
  is-refused (by_element {number} {j} {end} {items} l runs r) =
      let e : walk_of s ≡ ended end (count items) = walked-within l ∙ ap answer (sym (derived runs)) in (
        count items,
        refused-element edition s end (count items) number j e (by-refused edition (tree_of s) (typed-stream s) number j r (judge edition (tree_of s)) refl),
      )

  -- the other way: by how the walk ended, and by what the judge says
  judged-refused : (number place headers count : ℕ) → length s ≤ stream_limit → (end : ℕ) → top.how ≡ ends end → (found : Judged)
      → judge edition (tree_of s) ≡ found → after_walk (items_of_stream s) count found ≡ refusal number place headers → RefusedWith edition s number place
  judged-refused number place headers count l end h (accepted elements) j e = let z : ◌≡◌ {A = ℕ} 0 1 = cc in absurd (omega arith)
  judged-refused number place headers count l end h (refused n k) j e =
      let p : n ≡ number = cc in
      let q : place_of k (items_of_stream s) ≡ place = cc in
      let r : RefusedWith edition s n (place_of k (items_of_stream s)) =
      by_element l (subst (Runs s deepest 0 (length s) false top.items) h rules-hold) (refused-by edition (tree_of s) (typed-stream s) n k j) in
      subst (RefusedWith edition s number) q (subst (λ (m : ℕ). RefusedWith edition s m (place_of k (items_of_stream s))) p r)

  walked-refused : (number place headers : ℕ) → length s ≤ stream_limit → (how : End) → top.how ≡ how
      → by_walk edition s (answer (record { items = top.items; how = how })) ≡ refusal number place headers → RefusedWith edition s number place
  walked-refused number place headers l (ends end) h e =
      judged-refused number place headers (count top.items) l end h (judge edition (tree_of s)) refl e
  walked-refused number place headers l (stops n k) h e =
      let p : n ≡ number = cc in
      let q : k ≡ place = cc in
      let r : RefusedWith edition s n k = at_fault l (subst (Runs s deepest 0 (length s) false top.items) h rules-hold) in
      subst (RefusedWith edition s number) q (subst (λ (m : ℕ). RefusedWith edition s m k) p r)

  refused-with : (number place headers : ℕ) → letter_in edition s ≡ refusal number place headers → RefusedWith edition s number place
  unfolding letter_in
  refused-with number place headers e =
      cases (leb (length s) stream_limit)
      (λ t.
      let l = leb-true (length s) stream_limit t in
      walked-refused number place headers l top.how refl (sym (ap (by_walk edition s) (walked-within l)) ∙ e))
      (λ t.
      let l : stream_limit < length s = leb-false (length s) stream_limit t in
      let f : refusal 1 0 0 ≡ refusal number place headers = sym (ap (by_walk edition s) (walked-over l)) ∙ e in
      let p : 1 ≡ number = cc in
      let q : 0 ≡ place = cc in
      subst (RefusedWith edition s number) q (subst (λ (m : ℕ). RefusedWith edition s m 0) p (too_long l)))

  pub refused_is : (number place : ℕ) → IsRefused number place ↔ RefusedWith edition s number place
  refused_is number place = (λ r. refused-with number place r.0 r.1, is-refused)
