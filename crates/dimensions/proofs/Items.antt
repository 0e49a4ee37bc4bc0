-- The verdict on what an A4 holds, by its first two items and whether there are more.
use mathlib.Core.Path.{◌≡◌, refl, ap, sym, ◌∙◌}
use mathlib.Core.Bool.{Bool, true, false}
use mathlib.Core.List.{List}
use Prim.Native.Nat.{ℕ}
use native.Mathlib.Omega.{arith}
use lib.Seq.{slice}
use borrow.Author.Tests.{eq-eqb, ne_eqb}
use Rattle.headers.specs.Head.{constructed, type_field}
use Rattle.tree.specs.Tree.{Tree, empty, formed}
use Rattle.runs.specs.declared.Run.{Run}
use Rattle.runs.specs.Runs.{tree_in}
use Rattle.runs.proofs.Laws.{tree-meets, tree-none}
use Rattle.contents.specs.declared.Opening.{Opening}
use Rattle.contents.specs.Opening.{Begins, CountsOn, Opens, nothing, single, several, ends_here, goes_on}
use Rattle.contents.proofs.Firsts.{is_field}
use Rattle.measures.specs.Integers.{integer_of}
use Rattle.measures.specs.Verdicts.{not_fixed, verdict_of_two}
use Rattle.dimensions.specs.Dimensions.{verdict_of_items}

module _ (type value : List ℕ) (inside : Tree) where
  of_one : (b : Bool) → verdict_of_items (formed b type value inside empty) ≡ not_fixed
  unfolding verdict_of_items
  of_one true = refl
  of_one false = refl

  of_three : (a b c : Bool) (type₂ value₂ type₃ value₃ : List ℕ) (inside₂ inside₃ after : Tree)
      → verdict_of_items (formed a type value inside (formed b type₂ value₂ inside₂ (formed c type₃ value₃ inside₃ after))) ≡ not_fixed
  unfolding verdict_of_items
  of_three true b c type₂ value₂ type₃ value₃ inside₂ inside₃ after = refl
  of_three false true c type₂ value₂ type₃ value₃ inside₂ inside₃ after = refl
  of_three false false true type₂ value₂ type₃ value₃ inside₂ inside₃ after = refl
  of_three false false false type₂ value₂ type₃ value₃ inside₂ inside₃ after = refl

module _ (one two : ℕ) (h v : List ℕ) (in_one in_two : Tree) where
  abbrev Both : (a b : Bool) → Tree
  Both a b = formed a (type_field one) h in_one (formed b (type_field two) v in_two empty)

  first-other : (a b : Bool) → (one ≡ 0x80 → ⊥) → verdict_of_items (Both a b) ≡ not_fixed
  unfolding verdict_of_items
  first-other true b n = refl
  first-other false true n = refl
  first-other false false n = rw (is_field 0x80 one, ne_eqb one 0x80 n)

  second-other : (a b : Bool) → one ≡ 0x80 → (two ≡ 0x80 → ⊥) → verdict_of_items (Both a b) ≡ not_fixed
  unfolding verdict_of_items
  second-other true b e n = refl
  second-other false true e n = refl
  second-other false false e n = rw (is_field 0x80 one, eq-eqb one 0x80 e, is_field 0x80 two, ne_eqb two 0x80 n)

  both-fixed : (a b : Bool) → a ≡ false → b ≡ false → one ≡ 0x80 → two ≡ 0x80 → verdict_of_items (Both a b) ≡ verdict_of_two (integer_of h) (integer_of v)
  unfolding verdict_of_items
  both-fixed a b p q e f = rw (p, q, is_field 0x80 one, eq-eqb one 0x80 e, is_field 0x80 two, eq-eqb two 0x80 f)

-- two items: the tree, and that both values are parts of the stream
pub record Two (s : List ℕ) (r : Run) (o : Opening) : Type 0 where
  pub rest : Run
  pub last : Run
  pub one_met : Begins s r o.one rest
  pub two_met : Begins s rest o.two last
  pub tree : tree_in s r ≡ formed (constructed o.one.code) (type_field o.one.code) (slice o.one.first o.one.past s) (tree_in s o.one.inner)
      (formed (constructed o.two.code) (type_field o.two.code) (slice o.two.first o.two.past s) (tree_in s o.two.inner) empty)

module _ {s : List ℕ} {r : Run} {o : Opening} where
  after_two : (rest last : Run) → Begins s r o.one rest → Begins s rest o.two last → CountsOn s last o.count → (o.count ≡ 2 → ⊥)
      → not_fixed ≡ verdict_of_items (tree_in s r)
  after_two rest last m n (ends_here z e) k = absurd (k z)
  after_two rest last m n (goes_on third beyond z t) k =
      let deep : tree_in s rest ≡ formed (constructed o.two.code) (type_field o.two.code) (slice o.two.first o.two.past s)
      (tree_in s o.two.inner)
      (formed (constructed third.code) (type_field third.code) (slice third.first third.past s) (tree_in s third.inner) (tree_in s beyond)) =
      tree-meets n ∙ ap (formed (constructed o.two.code) (type_field o.two.code) (slice o.two.first o.two.past s)
      (tree_in s o.two.inner)) (tree-meets t) in
      sym (ap verdict_of_items (tree-meets m ∙ ap (formed (constructed o.one.code) (type_field o.one.code)
      (slice o.one.first o.one.past s) (tree_in s o.one.inner)) deep)
      ∙ of_three (type_field o.one.code) (slice o.one.first o.one.past s) (tree_in s o.one.inner) (constructed o.one.code)
      (constructed o.two.code) (constructed third.code) _ _ _ _ _ _ _)

  -- not two items
  pub not-two : Opens s r o → (o.count ≡ 2 → ⊥) → not_fixed ≡ verdict_of_items (tree_in s r)
  unfolding verdict_of_items
  not-two (nothing z e) n = sym (ap verdict_of_items (tree-none s r e))
  not-two (single rest z m e) n =
      let t : tree_in s r ≡ formed (constructed o.one.code) (type_field o.one.code) (slice o.one.first o.one.past s)
      (tree_in s o.one.inner) empty =
      tree-meets m ∙ ap (formed (constructed o.one.code) (type_field o.one.code) (slice o.one.first o.one.past s)
      (tree_in s o.one.inner)) (tree-none s rest e) in
      sym (ap verdict_of_items t ∙ of_one _ _ _ (constructed o.one.code))
  not-two (several rest last m k c) n = after_two rest last m k c n

  two-of : (rest last : Run) → Begins s r o.one rest → Begins s rest o.two last → CountsOn s last o.count → o.count ≡ 2 → Two s r o
  two-of rest last m n (goes_on third beyond z t) c = absurd (omega arith)
  two-of rest last m n (ends_here z e) c =
      record {
        rest = rest;
        last = last;
        one_met = m;
        two_met = n;
        tree = tree-meets m
            ∙ ap (formed (constructed o.one.code) (type_field o.one.code) (slice o.one.first o.one.past s) (tree_in s o.one.inner))
            (tree-meets n ∙ ap (formed (constructed o.two.code) (type_field o.two.code) (slice o.two.first o.two.past s)
            (tree_in s o.two.inner)) (tree-none s last e));
      }

  pub two_items : Opens s r o → o.count ≡ 2 → Two s r o
  two_items (nothing z e) c = absurd (omega arith)
  two_items (single rest z m e) c = absurd (omega arith)
  two_items (several rest last m n k) c = two-of rest last m n k c

  module _ (t : Two s r o) where
    pub one-other : (o.one.code ≡ 0x80 → ⊥) → not_fixed ≡ verdict_of_items (tree_in s r)
    one-other n = sym (ap verdict_of_items t.tree ∙ first-other o.one.code o.two.code _ _ _ _ (constructed o.one.code)
        (constructed o.two.code) n)

    pub two-other : o.one.code ≡ 0x80 → (o.two.code ≡ 0x80 → ⊥) → not_fixed ≡ verdict_of_items (tree_in s r)
    two-other e n =
        sym (ap verdict_of_items t.tree ∙ second-other o.one.code o.two.code _ _ _ _ (constructed o.one.code) (constructed o.two.code) e n)

    pub both-80 : o.one.code ≡ 0x80 → o.two.code ≡ 0x80
        → verdict_of_two (integer_of (slice o.one.first o.one.past s)) (integer_of (slice o.two.first o.two.past s)) ≡ verdict_of_items (tree_in s r)
    both-80 e f =
        sym (ap verdict_of_items t.tree
        ∙ both-fixed o.one.code o.two.code _ _ _ _ (constructed o.one.code) (constructed o.two.code) (ap constructed e) (ap constructed f) e f)
