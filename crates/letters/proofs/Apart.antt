-- In an accepted letter no two elements share a name, for each was judged after those before it.
use mathlib.Core.Path.{◌≡◌, refl, sym, ◌∙◌, subst}
use mathlib.Core.Bool.{Bool, true, false, not, xor, ◌||◌, true≢false}
use mathlib.Core.List.{List, [], ◌∷◌, ◌++◌, map}
use mathlib.Core.Option.{some}
use Prim.Native.Nat.{ℕ, ◌<◌}
use native.Mathlib.Omega.{arith}
use borrow.Author.Tests.{eqb-true, eq-eqb, leb-false, not-false}
use borrow.Table.Steps.{cases}
use lib.Dec.{eqb, leb}
use lib.ListN.{length, get_elem?, length-append}
use Rattle.tree.specs.Tree.{Tree, empty, leaf, branch}
use Rattle.names.proofs.Same.{same_refl}
use Rattle.contents.specs.Search.{octets, is}
use Rattle.portions.specs.Portions.{any, repeats}
use Rattle.rows.specs.Rows.{name_space_of}
use Rattle.elements.specs.declared.Edition.{Edition}
use Rattle.elements.specs.Shape.{shape_of}
use Rattle.elements.specs.Judge.{value_at, type_octet, types_of, Element, element_of, as_tabled, type_fits, names_fit, most_elements, profile_octet, shares, clash}
use Rattle.elements.specs.Judge.{twice, refusal_of, Judged, accepted, refused, judge_one, judge_from, judge}
use Rattle.letters.specs.Apart.{Apart}
use Rattle.judging.proofs.Lists.{Last, before, last, below_length, at_last, any_none}
use Rattle.judging.proofs.Steps.{passed}

or-false : (a b : Bool) → a || b ≡ false → (a ≡ false) × (b ≡ false)
or-false true b e = absurd (true≢false e)
or-false false b e = (refl, e)

-- an element that no rule refuses
record Apt (done : List Element) (e : Element) : Type 0 where
  few : length done < most_elements
  apart : any (map (λ d. clash d e) done) ≡ false
  once : repeats e.portions ≡ false
  spelt : names_fit e ≡ true

apt : (edition : Edition) (done : List Element) (type : List ℕ) (run : Tree) → refusal_of edition done type run ≡ 0
    → Apt done (element_of (shape_of edition type) run)
unfolding refusal_of twice
apt edition done type run z =
    let shape = shape_of edition type in
    let e = element_of shape run in
    let p9 = passed 9 (leb most_elements (length done)) _ (λ q. absurd (omega arith)) z in
    let p10 = passed 10 (not (is shape.octet type)) _ (λ q. absurd (omega arith)) p9.1 in
    let p11 = passed 11 (xor (eqb (length done) 0) (is profile_octet type)) _ (λ q. absurd (omega arith)) p10.1 in
    let p12 = passed 12 (not (as_tabled shape.contents run)) _ (λ q. absurd (omega arith)) p11.1 in
    let p13 = passed 13 (not (type_fits (types_of shape.contents) (value_at (type_octet shape.contents) run))) _ (λ q. absurd (omega arith)) p12.1 in
    let p14 = passed 14 (not (names_fit e)) _ (λ q. absurd (omega arith)) p13.1 in
    let p15 = passed 15 (any (map (λ d. clash d e) done) || repeats e.portions) _ (λ q. absurd (omega arith)) p14.1 in
    let parts = or-false (any (map (λ d. clash d e) done)) (repeats e.portions) p15.0 in
    record { few = leb-false most_elements (length done) p9.0; apart = parts.0; once = parts.1; spelt = not-false (names_fit e) p14.0 }

module _ (done : List Element) (e : Element) (a : Apart done) (w : Apt done e) where
  two : (i j : ℕ) (x y : Element) → i < j → Last done e i x → Last done e j y → clash x y ≡ false
  two i j x y l (before p) (before q) = a.apart i j x y l p q
  two i j x y l (before p) (last q r) = rw r (any_none (λ d. clash d e) done w.apart i x p)
  two i j x y l (last p r) (before q) = let b = below_length done j y q in absurd (omega arith)
  two i j x y l (last p r) (last q t) = absurd (omega arith)

  once_more : (j : ℕ) (x : Element) → Last done e j x → repeats x.portions ≡ false
  once_more j x (before p) = a.once j x p
  once_more j x (last p r) = rw r w.once

  spelt-more : (j : ℕ) (x : Element) → Last done e j x → names_fit x ≡ true
  spelt-more j x (before p) = a.spelt j x p
  spelt-more j x (last p r) = rw r w.spelt

  apart_more : Apart (done ++ e ∷ [])
  apart_more = record {
    few = simp length-append (omega (arith, w.few));
    apart = λ i j x y l p q. two i j x y l (at_last done e i x p) (at_last done e j y q);
    once = λ j x p. once_more j x (at_last done e j x p);
    spelt = λ j x p. spelt-more j x (at_last done e j x p);
  }

apart-one : (edition : Edition) (done : List Element) (type : List ℕ) (run : Tree) (more : List Element → Judged) (elements : List Element)
    → judge_one edition done type run more ≡ accepted elements → Apart done
    → ((longer : List Element) → more longer ≡ accepted elements → Apart longer → Apart elements) → Apart elements
unfolding judge_one
apart-one edition done type run more elements judged a rest =
    let n = refusal_of edition done type run in
    let e = element_of (shape_of edition type) run in
    cases (eqb n 0)
    (λ t. rest (done ++ e ∷ []) (rw t at judged) (apart_more done e a (apt edition done type run (eqb-true n 0 t))))
    (λ t. let q : refused n (length done) ≡ accepted elements = rw t at judged in let z : ◌≡◌ {A = ℕ} 0 1 = cc in absurd (omega arith))

apart_from : (edition : Edition) (t : Tree) (done elements : List Element) → judge_from edition done t ≡ accepted elements → Apart done → Apart elements
unfolding judge_from
apart_from edition empty done elements judged a = let e : done ≡ elements = cc in subst Apart e a
apart_from edition (leaf type value after) done elements judged a =
    apart-one edition done type empty (λ more. judge_from edition more after) elements judged a (λ longer j b. apart_from edition after longer elements j b)
apart_from edition (branch type inside after) done elements judged a =
    apart-one edition done type inside (λ more. judge_from edition more after) elements judged a (λ longer j b. apart_from edition after longer elements j b)

apart_none : Apart []
apart_none = record {
  few = omega arith;
  apart = λ i j d e l p q. let z : ◌≡◌ {A = ℕ} 0 1 = cc in absurd (omega arith);
  once = λ j e p. let z : ◌≡◌ {A = ℕ} 0 1 = cc in absurd (omega arith);
  spelt = λ j e p. let z : ◌≡◌ {A = ℕ} 0 1 = cc in absurd (omega arith);
}

-- rule 15 as it reads
pub accepted-apart : (edition : Edition) (t : Tree) (elements : List Element) → judge edition t ≡ accepted elements → Apart elements
unfolding judge
accepted-apart edition empty elements judged = let z : ◌≡◌ {A = ℕ} 0 1 = cc in absurd (omega arith)
accepted-apart edition (leaf type value after) elements judged = apart_from edition (leaf type value after) [] elements judged apart_none
accepted-apart edition (branch type inside after) elements judged = apart_from edition (branch type inside after) [] elements judged apart_none

or-true : (a b : Bool) → a ≡ true → a || b ≡ true
or-true a b e = rw e

-- two elements of one name space have not the same identifier
pub identifiers-differ : {elements : List Element} → Apart elements → (i j : ℕ) (d e : Element) → i < j → get_elem? elements i ≡ some d
    → get_elem? elements j ≡ some e → name_space_of d.kind ≡ name_space_of e.kind →
    (xs ys : List ℕ) → d.identifier ≡ octets xs → e.identifier ≡ octets ys → xs ≡ ys → ⊥
unfolding clash
identifiers-differ a i j d e l p q same-space xs ys x y same_bytes =
    let shared : shares d.identifier e.identifier ≡ true = rw (x, y, same_bytes) (same_refl ys) in
    let clashing : clash d e ≡ true = rw (eq-eqb (name_space_of d.kind) (name_space_of e.kind) same-space, shared) in
    true≢false (sym clashing ∙ a.apart i j d e l p q)
