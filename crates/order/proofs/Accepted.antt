-- The elements of a letter are such as the order rules speak of: they do not clash and are well spelt (rules 14 and 15), and only classes and
-- objects list portions, since no other shape of either edition looks for any.
use mathlib.Core.Path.{◌≡◌, refl, sym, subst}
use mathlib.Core.Logic.{◌⊎◌, inl, inr}
use mathlib.Core.Bool.{Bool, true, false, ◌&&◌, ◌||◌, false≢true}
use mathlib.Core.Option.{Option, none, some}
use mathlib.Core.List.Memᴰ
use mathlib.Core.List.{List, [], ◌∷◌, ◌++◌, map}
use Prim.Native.Nat.{ℕ, suc, ◌%◌, ◌<◌}
use native.Mathlib.Omega.{arith}
use lib.Dec.{eqb, leb}
use lib.ListN.{length, get_elem?}
use borrow.Table.Steps.{cases}
use Rattle.headers.specs.Head.{is_in}
use Rattle.tree.specs.Tree.{Tree, empty, leaf, branch}
use Rattle.names.specs.Names.{longest_identifier, grouped, is_identifier, is_portion}
use Rattle.contents.specs.Search.{Value, absent, octets, is}
use Rattle.portions.specs.Portions.{most_portions, all, values, repeats, well_spelt}
use Rattle.elements.specs.declared.Edition.{Edition}
use Rattle.elements.specs.declared.Edition.TheVariants.{Of1988, Of1993}
use Rattle.elements.specs.Shape.{Shape, Shapes, shapes_of, shape_in, shape_of}
use Rattle.elements.specs.Judge.{Element, body_of, portions_octet, run_at, element_of, spelt, names_fit, clash, Judged, accepted, refused, refusal_of, judge_one}
use Rattle.elements.specs.Judge.{judge_from, judge}
use Rattle.letters.proofs.Apart.{accepted-apart}
use Rattle.order.specs.Represents.{◌∈◌, spelt_aside, listing, FitAside, NoClash, LimitsAside}
use Rattle.order.proofs.Tests.{both, either, member-at}

abbrev is_none : Option ℕ → Bool
is_none none = true
is_none (some octet) = false

-- only shapes of these kinds seek portions
abbrev lists_only : Shape → Bool
lists_only shape = is_in (shape.octet % 32) listing || is_none (portions_octet shape.contents)

abbrev Lists : Element → Type 0
Lists e = (is_in e.kind listing ≡ true) ⊎ (e.portions ≡ [])

nothing-sought : (sought : Option ℕ) → is_none sought ≡ true → (run : Tree) → values (run_at sought run) ≡ []
unfolding values
nothing-sought none t run = refl
nothing-sought (some octet) t run = absurd (false≢true t)

element-lists : (shape : Shape) → lists_only shape ≡ true → (run : Tree) → Lists (element_of shape run)
unfolding element_of
element-lists shape t run = which (either (is_in (shape.octet % 32) listing) (is_none (portions_octet shape.contents)) t)
  where
    which : (is_in (shape.octet % 32) listing ≡ true) ⊎ (is_none (portions_octet shape.contents) ≡ true) → Lists (element_of shape run)
    which (inl k) = inl k
    which (inr z) = inr (nothing-sought (portions_octet shape.contents) z (body_of shape.contents run))

shape-lists : (shapes : Shapes) → all (map lists_only shapes) ≡ true → (type : List ℕ) → lists_only (shape_in shapes type) ≡ true
shape-lists [] t type = refl
shape-lists (shape ∷ shapes) t type =
    let r = both (lists_only shape) (all (map lists_only shapes)) t in
    cases (is shape.octet type) (λ u. rw u r.0) (λ u. rw u (shape-lists shapes r.1 type))

-- the shapes of each edition are so: computed
edition-lists : (edition : Edition) → all (map lists_only (shapes_of edition)) ≡ true
edition-lists Of1988 = refl
edition-lists Of1993 = refl

of-edition : (edition : Edition) (type : List ℕ) → lists_only (shape_of edition type) ≡ true
unfolding shape_of
of-edition edition type = shape-lists (shapes_of edition) (edition-lists edition) type

module _ (edition : Edition) where
  lists-more : (done : List Element) (e : Element) → ((d : Element) → d ∈ done → Lists d) → Lists e → (d : Element) → d ∈ done ++ e ∷ [] → Lists d
  lists-more done e h l d m = step (Memᴰ.append_cases done m)
    where
      step : (d ∈ done) ⊎ (d ∈ e ∷ []) → Lists d
      step (inl n) = h d n
      step (inr n) = subst Lists (sym (Memᴰ.eq_of_singleton n)) l

  lists-one : (done : List Element) (type : List ℕ) (run : Tree) (more : List Element → Judged) (elements : List Element)
      → judge_one edition done type run more ≡ accepted elements → ((d : Element) → d ∈ done → Lists d)
      → ((longer : List Element) → more longer ≡ accepted elements → ((d : Element) → d ∈ longer → Lists d) → (d : Element) → d ∈ elements → Lists d)
      → (d : Element) → d ∈ elements → Lists d
  unfolding judge_one
  lists-one done type run more elements judged h rest =
      let n = refusal_of edition done type run in
      let e = element_of (shape_of edition type) run in
      cases (eqb n 0)
      (λ t. rest (done ++ e ∷ []) (rw t at judged) (lists-more done e h (element-lists (shape_of edition type) (of-edition edition type) run)))
      (λ t. let q : refused n (length done) ≡ accepted elements = rw t at judged in let z : ◌≡◌ {A = ℕ} 0 1 = cc in absurd (omega arith))

  lists-from : (t : Tree) (done elements : List Element) → judge_from edition done t ≡ accepted elements → ((d : Element) → d ∈ done → Lists d)
      → (d : Element) → d ∈ elements → Lists d
  unfolding judge_from
  lists-from empty done elements judged h = let e : done ≡ elements = cc in subst (λ (l : List Element). (d : Element) → d ∈ l → Lists d) e h
  lists-from (leaf type value after) done elements judged h =
      lists-one done type empty (λ more. judge_from edition more after) elements judged h (λ longer j g. lists-from after longer elements j g)
  lists-from (branch type inside after) done elements judged h =
      lists-one done type inside (λ more. judge_from edition more after) elements judged h (λ longer j g. lists-from after longer elements j g)

  lists-judged : (t : Tree) (elements : List Element) → judge edition t ≡ accepted elements → (d : Element) → d ∈ elements → Lists d
  unfolding judge
  lists-judged empty elements judged = let z : ◌≡◌ {A = ℕ} 0 1 = cc in absurd (omega arith)
  lists-judged (leaf type value after) elements judged = lists-from (leaf type value after) [] elements judged (λ d m. absurd (Memᴰ.not-nil m))
  lists-judged (branch type inside after) elements judged = lists-from (branch type inside after) [] elements judged (λ d m. absurd (Memᴰ.not-nil m))

no-clash : (es : List Element) → ((i j : ℕ) (d e : Element) → i < j → get_elem? es i ≡ some d → get_elem? es j ≡ some e → clash d e ≡ false) → NoClash es
no-clash [] a = tt
no-clash (x ∷ es) a = (
  λ e m. let r = member-at es e m in a 0 (suc r.0) x e (omega arith) refl r.1,
  no-clash es (λ i j d e l p q. a (suc i) (suc j) d e (omega arith) p q),
)

spelt-aside : (v : Value) → spelt v ≡ true → spelt_aside v ≡ true
unfolding is_identifier
spelt-aside absent t = refl
spelt-aside (octets bytes) t = (both (leb (length bytes) longest_identifier) (grouped false bytes) t).1

fit-aside : (e : Element) → names_fit e ≡ true → repeats e.portions ≡ false → Lists e → FitAside e
unfolding names_fit well_spelt
fit-aside e n r l =
    let a = both (spelt e.identifier) (spelt e.logical && (well_spelt e.portions && true)) n in
    let b = both (spelt e.logical) (well_spelt e.portions && true) a.1 in
    let c = both (well_spelt e.portions) true b.1 in
    let d = both (leb (length e.portions) most_portions) (all (map is_portion e.portions)) c.0 in
    record { identifier = spelt-aside e.identifier a.0; logical = spelt-aside e.logical b.0; portions = d.1; once = r; lists = l }

-- the elements that the judge accepts, by either edition
pub judged-aside : (edition : Edition) (t : Tree) (elements : List Element) → judge edition t ≡ accepted elements → LimitsAside elements
judged-aside edition t elements judged =
    let a = accepted-apart edition t elements judged in
    record {
      fit = λ e m. let r = member-at elements e m in
          fit-aside e (a.spelt r.0 e r.1) (a.once r.0 e r.1) (lists-judged edition t elements judged e m);
      apart = no-clash elements a.apart;
    }
