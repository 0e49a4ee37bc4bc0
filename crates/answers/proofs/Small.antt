-- The number of a refusal by rules 1 to 15 is one of 1 to 15, its place lies in the stream, and no more than half the stream's bytes are
-- headers: by what is known of the walk, and for each rule by its number.
use mathlib.Core.Path.{◌≡◌, refl, ap, ◌∙◌}
use mathlib.Core.Logic.{◌⊎◌, inl, inr}
use mathlib.Core.Bool.{Bool, true, false, cond, not, xor}
use mathlib.Core.List.{List, [], ◌∷◌, ◌++◌}
use Prim.Native.Nat.{ℕ, zero, suc, ◌+◌, ◌≤◌}
use native.Mathlib.Omega.{arith}
use lib.Dec.{eqb, leb}
use lib.ListN.{length}
use borrow.Author.Tests.{leb-true, eqb-false}
use borrow.Table.Steps.{cases}
use Rattle.std.specs.Prelude.{Ok, Err}
use Rattle.octets.specs.Told.{Outcome, ended, refused as faulty, told}
use Rattle.octets.specs.Walk.{Items, count, stream_limit, deepest, End, ends, stops, run, outcome_of, walk_of}
use Rattle.laws.proofs.Tests.{cond-holds}
use Rattle.octets.proofs.Walks.{EndOk, run_ok}
use Rattle.octets.proofs.Numbers.{Stops, run-stops, Before, nothing, stands, run-before}
use Rattle.tree.specs.Tree.{Tree, empty, leaf, branch, tree_of}
use Rattle.runs.proofs.Laws.{stream-within, stream-fine, stream-count, count-within}
use Rattle.contents.specs.Search.{is}
use Rattle.elements.specs.declared.Edition.{Edition}
use Rattle.elements.specs.Shape.{shape_of}
use Rattle.elements.specs.Judge.{value_at, type_octet, types_of, Element, element_of, as_tabled, type_fits, names_fit, Judged, accepted, refused, most_elements}
use Rattle.elements.specs.Judge.{profile_octet, twice, refusal_of, judge_one, judge_from, judge}
use Rattle.elements.specs.ElementRows.{place_of}
use Rattle.letters.specs.Letter.{refusal, items_of_stream, after_walk, by_walk, letter_in}

-- what is known of any refusal by rules 1 to 15
pub record Small (s : List ℕ) (number place headers : ℕ) : Type 0 where
  pub low : 1 ≤ number
  pub high : number ≤ 15
  pub inside : place ≤ length s
  pub near : place ≤ stream_limit
  pub half : headers + headers ≤ length s
  pub few : headers ≤ stream_limit

-- the walk's refusals
refused-small : (s : List ℕ) (b : Bool) (k : ℕ) (e : End) → (b ≡ true → length s ≤ stream_limit) → Stops (length s) e → EndOk 0 (length s) k e
    → (number place headers : ℕ) → cond b (outcome_of k e) (faulty 1 0 0) ≡ faulty number place headers → Small s number place headers
refused-small s true k (ends at) within stop ok number place headers p = let z : ◌≡◌ {A = ℕ} 0 1 = cc in absurd (omega arith)
refused-small s true k (stops m q) within stop ok number place headers p =
    let a : m ≡ number = ap (λ (o : Outcome). (told o).number) p in
    let b : q ≡ place = ap (λ (o : Outcome). (told o).place) p in
    let c : k ≡ headers = ap (λ (o : Outcome). (told o).headers) p in
    let l = within refl in
    record { low = omega arith; high = omega arith; inside = omega arith; near = omega arith; half = omega arith; few = omega arith }
refused-small s false k e within stop ok number place headers p =
    let a : 1 ≡ number = ap (λ (o : Outcome). (told o).number) p in
    let b : 0 ≡ place = ap (λ (o : Outcome). (told o).place) p in
    let c : 0 ≡ headers = ap (λ (o : Outcome). (told o).headers) p in
    record { low = omega arith; high = omega arith; inside = omega arith; near = omega arith; half = omega arith; few = omega arith }

pub walk-small : (s : List ℕ) (number place headers : ℕ) → walk_of s ≡ faulty number place headers → Small s number place headers
unfolding walk_of
walk-small s number place headers p =
    let w = run deepest s 0 (length s) false in
    refused-small s (leb (length s) stream_limit) (count w.items) w.how (leb-true (length s) stream_limit)
    (run-stops deepest s 0 (length s) false (omega arith)) (run_ok deepest s 0 (length s) false (omega arith)) number place headers p

-- the header count of a walk that ended
pub headers-small : (s : List ℕ) (at headers : ℕ) → walk_of s ≡ ended at headers → (headers + headers ≤ length s) × (headers ≤ stream_limit)
headers-small s at headers p =
    let l = stream-within s at headers p in
    let c = (stream-count s at headers p).1 in
    let h = count-within (stream-fine s at headers p) in
    (omega arith, omega arith)

-- rules 9 to 15
abbrev Ruled : ℕ → Type 0
Ruled n = (n ≡ 0) ⊎ ((9 ≤ n) × (n ≤ 15))

module _ (edition : Edition) where
  ruled : (done : List Element) (type : List ℕ) (items : Tree) → Ruled (refusal_of edition done type items)
  unfolding refusal_of
  ruled done type items =
      let shape = shape_of edition type in
      cond-holds Ruled (leb most_elements (length done)) (λ _. inr (omega arith, omega arith)) (λ _.
      cond-holds Ruled (not (is shape.octet type)) (λ _. inr (omega arith, omega arith)) (λ _.
      cond-holds Ruled (xor (eqb (length done) 0) (is profile_octet type)) (λ _. inr (omega arith, omega arith)) (λ _.
      cond-holds Ruled (not (as_tabled shape.contents items)) (λ _. inr (omega arith, omega arith)) (λ _.
      cond-holds Ruled (not (type_fits (types_of shape.contents) (value_at (type_octet shape.contents) items))) (λ _. inr (omega arith, omega arith)) (λ _.
      cond-holds Ruled (not (names_fit (element_of shape items))) (λ _. inr (omega arith, omega arith)) (λ _.
      cond-holds Ruled (twice done (element_of shape items)) (λ _. inr (omega arith, omega arith)) (λ _. inl refl)))))))

  not-zero : (n : ℕ) → Ruled n → (n ≡ 0 → ⊥) → (9 ≤ n) × (n ≤ 15)
  not-zero n (inl e) ne = absurd (ne e)
  not-zero n (inr l) ne = l

  one-refused : (done : List Element) (type : List ℕ) (items : Tree) (more : List Element → Judged) (number element : ℕ)
      → ((next : List Element) → more next ≡ refused number element → (9 ≤ number) × (number ≤ 15))
      → judge_one edition done type items more ≡ refused number element → (9 ≤ number) × (number ≤ 15)
  unfolding judge_one
  one-refused done type items more number element later p =
      let n = refusal_of edition done type items in
      cases (eqb n 0)
      (λ t. later (done ++ (element_of (shape_of edition type) items ∷ [])) (rw t at p))
      (λ t.
      let f : refused n (length done) ≡ refused number element = rw t at p in
      let e : n ≡ number = cc in
      let l = not-zero n (ruled done type items) (eqb-false n 0 t) in
      (omega arith, omega arith))

  from-refused : (done : List Element) (t : Tree) (number element : ℕ) → judge_from edition done t ≡ refused number element → (9 ≤ number) × (number ≤ 15)
  unfolding judge_from
  from-refused done empty number element p = let z : ◌≡◌ {A = ℕ} 0 1 = cc in absurd (omega arith)
  from-refused done (leaf type value after) number element p =
      one-refused done type empty (λ next. judge_from edition next after) number element (λ next. from-refused next after number element) p
  from-refused done (branch type inside after) number element p =
      one-refused done type inside (λ next. judge_from edition next after) number element (λ next. from-refused next after number element) p

  judge-refused : (t : Tree) (number element : ℕ) → judge edition t ≡ refused number element → (9 ≤ number) × (number ≤ 15)
  unfolding judge
  judge-refused empty number element p = let e : number ≡ 11 = cc in (omega arith, omega arith)
  judge-refused (leaf type value after) number element p = from-refused [] (leaf type value after) number element p
  judge-refused (branch type inside after) number element p = from-refused [] (branch type inside after) number element p

-- an element stands before the limit
place-before : {limit : ℕ} {items : Items} → Before limit items → (k : ℕ) → place_of k items ≤ limit
unfolding place_of
place-before nothing k = omega arith
place-before (stands l b) zero = omega arith
place-before (stands l b) (suc k) = place-before b k

pub place_inside : (s : List ℕ) (k : ℕ) → place_of k (items_of_stream s) ≤ length s
place_inside s k = place-before (run-before deepest s 0 (length s) false (omega arith)) k

module _ (edition : Edition) (s : List ℕ) (number place headers : ℕ) where
  judged-small : (at k : ℕ) → walk_of s ≡ ended at k → (j : Judged) → judge edition (tree_of s) ≡ j
      → after_walk (items_of_stream s) k j ≡ refusal number place headers → Small s number place headers
  judged-small at k w (accepted elements) p e = let z : ◌≡◌ {A = ℕ} 0 1 = cc in absurd (omega arith)
  judged-small at k w (refused n element) p e =
      let a : number ≡ n = cc in
      let b : place ≡ place_of element (items_of_stream s) = cc in
      let c : headers ≡ k = cc in
      let r = judge-refused edition (tree_of s) n element p in
      let i = place_inside s element in
      let l = stream-within s at k w in
      let h = headers-small s at k w in
      record { low = omega arith; high = omega arith; inside = omega arith; near = omega arith; half = omega arith; few = omega arith }

  faulty-small : (n q k : ℕ) → walk_of s ≡ faulty n q k → refusal n q k ≡ refusal number place headers → Small s number place headers
  faulty-small n q k w e =
      let a : n ≡ number = cc in
      let b : q ≡ place = cc in
      let c : k ≡ headers = cc in
      walk-small s number place headers (w ∙ rw (a, b, c))

  walked-small : (o : Outcome) → walk_of s ≡ o → by_walk edition s o ≡ refusal number place headers → Small s number place headers
  walked-small (Ok o) w e = judged-small o.at o.count w (judge edition (tree_of s)) refl e
  walked-small (Err f) w e = faulty-small f.number f.place f.count w e

  -- a stream that is refused by one of rules 1 to 15
  pub refusal-small : letter_in edition s ≡ refusal number place headers → Small s number place headers
  unfolding letter_in
  refusal-small e = walked-small (walk_of s) refl e
