-- No element of a letter that is made of entries that fit is refused, and its elements say what the entries say: in any edition that takes
-- them. Two units have the same identifier only if their blocks have, since a portion has no name_space_of.
use mathlib.Core.Path.{◌≡◌, refl, ap, sym, ◌∙◌}
use mathlib.Core.Bool.{Bool, true, false, ◌||◌, xor, or-false, true≢false}
use mathlib.Core.List.{List, [], ◌∷◌, ◌++◌, map, append-nil}
use Prim.Native.Nat.{ℕ, suc, ◌<◌}
use native.Mathlib.Omega.{arith}
use lib.Dec.{eqb, leb}
use lib.ListN.{length, length-append}
use lib.Seq.{append_snoc}
use borrow.Author.Tests.{lt-leb, ne_eqb}
use borrow.Table.Steps.{cases}
use Rattle.names.specs.Names.{same}
use Rattle.names.proofs.Same.{same-eq, same_refl}
use Rattle.names.proofs.Joined.{joined-parts}
use Rattle.tree.specs.Tree.{Tree, branch}
use Rattle.contents.specs.Search.{is}
use Rattle.portions.specs.Portions.{any, among, repeats}
use Rattle.rows.specs.Rows.{name_space_of}
use Rattle.elements.specs.declared.Edition.{Edition}
use Rattle.elements.specs.Judge.{Element, most_elements, profile_octet, clash, twice, Judged, accepted, judge_one, judge_from, judge}
use Rattle.elements.proofs.Refusals.{refusal-by-shape}
use Rattle.making.specs.Entries.{Said, unit_name, used, elements_for, Spelt}
use Rattle.making.specs.Stream.{block_type, unit_type, unit_run, entries_tree, letter_tree}
use Rattle.promises_made.specs.Reads.{profile_element, block_element, unit_element, entry_elements, elements_of}
use Rattle.promises_made.specs.Editions.{Takes, TakesAll}
use Rattle.making.proofs.Fitting.{AllFit}

-- how many elements there are, and those of an entry more
pub elements-count : (said : List Said) → length (elements_of said) ≡ elements_for (length said)
unfolding entry_elements
elements-count [] = refl
elements-count (x ∷ said) = let e = elements-count said in omega arith

entry_more : (done : List Said) (said : Said) → entry_elements (done ++ (said ∷ [])) ≡ entry_elements done ++ block_element said ∷ unit_element said ∷ []
unfolding entry_elements
entry_more [] said = refl
entry_more (x ∷ done) said = rw (entry_more done said)

elements-more : (done : List Said) (said : Said)
    → (elements_of done ++ (block_element said ∷ [])) ++ (unit_element said ∷ []) ≡ elements_of (done ++ (said ∷ []))
elements-more done said = append_snoc (elements_of done) (block_element said) (unit_element said ∷ [])
    ∙ ap (λ (es : List Element). profile_element ∷ es) (sym (entry_more done said))

-- entries that are well spelt
abbrev AllSpelt : List Said → Type 0
AllSpelt [] = Unit {0}
AllSpelt (said ∷ more) = Spelt said × AllSpelt more

spelt-more : (done : List Said) (said : Said) → AllSpelt done → Spelt said → AllSpelt (done ++ (said ∷ []))
spelt-more [] said a s = (s, tt)
spelt-more (x ∷ done) said (p, a) s = (p, spelt-more done said a s)

-- a block clashes with those whose identifier it has
block-clashes : (done : List Said) (said : Said) → any (map (λ d. clash d (block_element said)) (entry_elements done)) ≡ used done said
unfolding entry_elements used clash name_space_of
block-clashes [] said = refl
block-clashes (x ∷ done) said = rw (or-false (same x.identifier said.identifier), block-clashes done said)

block-once : (done : List Said) (said : Said) → used done said ≡ false → twice (elements_of done) (block_element said) ≡ false
unfolding twice clash name_space_of among repeats
block-once done said e = rw (block-clashes done said, e)

-- neither of two is true
both_false : (a b : Bool) → a || b ≡ false → (a ≡ false) × (b ≡ false)
both_false false b e = (refl, e)
both_false true b e = absurd (true≢false e)

-- units with the same identifier are of blocks with the same identifier
units-differ : (x said : Said) → Spelt x → Spelt said → same x.identifier said.identifier ≡ false → same (unit_name x) (unit_name said) ≡ false
units-differ x said p q n =
    cases (same (unit_name x) (unit_name said))
    (λ t.
    let e = joined-parts x.identifier said.identifier x.portion said.portion p.portion q.portion (same-eq (unit_name x) (unit_name said) t) in
    absurd (true≢false (sym (same_refl said.identifier) ∙ ap (λ (l : List ℕ). same l said.identifier) (sym e.0) ∙ n)))
    (λ t. t)

unit-clashes : (done : List Said) (said : Said) → AllSpelt done → Spelt said → used done said ≡ false
    → any (map (λ d. clash d (unit_element said)) (entry_elements done ++ (block_element said ∷ []))) ≡ false
unfolding entry_elements used clash name_space_of
unit-clashes [] said a s e = refl
unit-clashes (x ∷ done) said (p, a) s e =
    let (n, f) = both_false (same x.identifier said.identifier) (used done said) e in
    rw (units-differ x said p s n, unit-clashes done said a s f)

unit-once : (done : List Said) (said : Said) → AllSpelt done → Spelt said → used done said ≡ false
    → twice (elements_of done ++ (block_element said ∷ [])) (unit_element said) ≡ false
unfolding twice clash name_space_of repeats
unit-once done said a s e = rw (unit-clashes done said a s e)

-- one element that is taken, and not the first unless it is the profile
taken : {edition : Edition} {type : List ℕ} {run : Tree} {element : Element} → Takes edition type run element → (done : List Element)
    → leb most_elements (length done) ≡ false → xor (eqb (length done) 0) (is profile_octet type) ≡ false → twice done element ≡ false
    → (more : List Element → Judged) → judge_one edition done type run more ≡ more (done ++ (element ∷ []))
unfolding judge_one
taken {edition} {type} {run} takes done few first once more =
    rw (refusal-by-shape edition done type run few takes.known first, takes.passes, takes.says, once)

module _ (edition : Edition) (takes : TakesAll edition) where
  later : (done : List Element) (type : List ℕ) → is profile_octet type ≡ false → 0 < length done → xor (eqb (length done) 0) (is profile_octet type) ≡ false
  unfolding xor
  later done type e l = rw (e, ne_eqb (length done) 0 (λ z. omega arith))

  judged-from : (done said : List Said) → AllSpelt done → AllFit done said → judge_from edition (elements_of done) (entries_tree said) ≡ accepted
      (elements_of (done ++ said))
  unfolding judge_from entries_tree
  judged-from done [] a f = ap (λ (l : List Said). accepted (elements_of l)) (sym (append-nil done))
  judged-from done (x ∷ said) a (f, rest) =
      let before = elements_of done in
      let between = before ++ (block_element x ∷ []) in
      let few = f.few in
      let n = elements-count done in
      let m : length between ≡ suc (length before) = length-append before (block_element x ∷ []) ∙ omega arith in
      taken (takes.block x f.well) before (lt-leb most_elements (length before) (omega arith)) (later before block_type refl (omega arith))
      (block-once done x f.fresh) (λ more. judge_from edition more (branch unit_type (unit_run x) (entries_tree said)))
      ∙ taken (takes.unit x f.well) between (lt-leb most_elements (length between) (omega arith)) (later between unit_type refl (omega arith))
      (unit-once done x a f.well f.fresh) (λ more. judge_from edition more (entries_tree said))
      ∙ ap (λ (es : List Element). judge_from edition es (entries_tree said)) (elements-more done x)
      ∙ judged-from (done ++ (x ∷ [])) said (spelt-more done x a f.well) rest
      ∙ ap (λ (l : List Said). accepted (elements_of l)) (append_snoc done x said)

  -- The letter is accepted by 9 to 15, with these elements.
  pub judged : (said : List Said) → AllFit [] said → judge edition (letter_tree said) ≡ accepted (elements_of said)
  unfolding judge judge_from entry_elements xor twice repeats
  judged said f =
      taken takes.profile [] refl refl refl (λ more. judge_from edition more (entries_tree said))
      ∙ judged-from [] said tt f
