-- In an accepted letter a portion has one place, and a name one element; and portions are well spelt, at most 64.
use mathlib.Core.Path.{◌≡◌, ap, sym, ◌∙◌}
use mathlib.Core.Bool.{true, false, ◌&&◌, true≢false, and-eq-true_iff}
use mathlib.Core.Option.{some}
use mathlib.Core.List.{List, [], ◌∷◌, map}
use Prim.Native.Nat.{ℕ, zero, suc, ◌<◌, ◌≤◌}
use native.Mathlib.Omega.{arith}
use lib.Dec.{leb}
use lib.ListN.{length, get_elem?}
use borrow.Author.Tests.{leb-true}
use borrow.Table.Steps.{cases}
use Rattle.names.specs.Names.{same, is_portion}
use Rattle.names.proofs.Same.{same_refl}
use Rattle.portions.specs.Portions.{most_portions, all, among, repeats, well_spelt}
use Rattle.elements.specs.Judge.{Element, spelt, names_fit, clash}
use Rattle.letters.specs.Apart.{Apart}
use Rattle.judging.proofs.Lists.{any-true}

-- the portions of a well spelt element are at most 64,
module _ (e : Element) (fits : names_fit e ≡ true) where
  portions-fit : (leb (length e.portions) most_portions ≡ true) × (all (map is_portion e.portions) ≡ true)
  unfolding names_fit well_spelt
  portions-fit =
      let a = (and-eq-true_iff (spelt e.identifier) (spelt e.logical && (well_spelt e.portions && true))).0 fits in
      let b = (and-eq-true_iff (spelt e.logical) (well_spelt e.portions && true)).0 a.1 in
      let c = (and-eq-true_iff (well_spelt e.portions) true).0 b.1 in
      (and-eq-true_iff (leb (length e.portions) most_portions) (all (map is_portion e.portions))).0 c.0

  pub few-portions : length e.portions ≤ most_portions
  few-portions = leb-true (length e.portions) most_portions portions-fit.0

all-at : (vs : List (List ℕ)) → all (map is_portion vs) ≡ true → (k : ℕ) (v : List ℕ) → get_elem? vs k ≡ some v → is_portion v ≡ true
all-at [] a k v e = let z : ◌≡◌ {A = ℕ} 0 1 = cc in absurd (omega arith)
all-at (w ∷ vs) a zero v e =
    let q : v ≡ w = cc in
    ap is_portion q ∙ ((and-eq-true_iff (is_portion w) (all (map is_portion vs))).0 a).0
all-at (w ∷ vs) a (suc k) v e = all-at vs ((and-eq-true_iff (is_portion w) (all (map is_portion vs))).0 a).1 k v e

-- and each is a portion number
pub portion-spelt : (e : Element) → names_fit e ≡ true → (k : ℕ) (v : List ℕ) → get_elem? e.portions k ≡ some v → is_portion v ≡ true
portion-spelt e fits k v p = all-at e.portions (portions-fit e fits).1 k v p

among-at : (v : List ℕ) (vs : List (List ℕ)) (k : ℕ) → get_elem? vs k ≡ some v → among v vs ≡ true
unfolding among
among-at v vs k e = any-true (same v) vs k v e (same_refl v)

repeats-at : (vs : List (List ℕ)) (i j : ℕ) (v : List ℕ) → i < j → get_elem? vs i ≡ some v → get_elem? vs j ≡ some v → repeats vs ≡ true
unfolding repeats
repeats-at [] i j v l p q = let z : ◌≡◌ {A = ℕ} 0 1 = cc in absurd (omega arith)
repeats-at (x ∷ vs) i zero v l p q = absurd (omega arith)
repeats-at (x ∷ vs) zero (suc j) v l p q =
    let e : x ≡ v = cc in
    let a : among x vs ≡ true = ap (λ (w : List ℕ). among w vs) e ∙ among-at v vs j q in
    rw a
repeats-at (x ∷ vs) (suc i) (suc j) v l p q = cases (among x vs) (λ t. rw t) (λ t. rw t (repeats-at vs i j v (omega arith) p q))

-- in a list that does not repeat, a value has one place
pub one_place : (vs : List (List ℕ)) → repeats vs ≡ false → (i j : ℕ) (v : List ℕ) → get_elem? vs i ≡ some v → get_elem? vs j ≡ some v → i ≡ j
one_place vs r i j v p q =
    let not-below : i < j → ⊥ = λ l. true≢false (sym (repeats-at vs i j v l p q) ∙ r) in
    let not-above : j < i → ⊥ = λ l. true≢false (sym (repeats-at vs j i v l q p) ∙ r) in
    omega arith

-- in an accepted letter two elements that would clash are one
pub one-element : (elements : List Element) → Apart elements → (i j : ℕ) (d e : Element) → get_elem? elements i ≡ some d → get_elem? elements j ≡ some e
    → clash d e ≡ true → clash e d ≡ true → i ≡ j
one-element elements apart i j d e p q c f =
    let not-below : i < j → ⊥ = λ l. true≢false (sym c ∙ apart.apart i j d e l p q) in
    let not-above : j < i → ⊥ = λ l. true≢false (sym f ∙ apart.apart j i e d l q p) in
    omega arith
