-- Rules 9 to 15 of one element, taken apart: 9, 10 and 11 by their own tests, then the shape's, then 15.
use mathlib.Core.Path.{◌≡◌, refl}
use mathlib.Core.Bool.{Bool, true, false, cond, xor}
use mathlib.Core.List.{List, [], ◌∷◌, ◌++◌}
use Prim.Native.Nat.{ℕ}
use lib.Dec.{eqb, leb}
use lib.ListN.{length}
use Rattle.tree.specs.Tree.{Tree}
use Rattle.contents.specs.Search.{is}
use Rattle.elements.specs.declared.Edition.{Edition}
use Rattle.elements.specs.Shape.{shape_of}
use Rattle.elements.specs.Judge.{value_at, type_octet, types_of, Element, element_of, as_tabled, type_fits, names_fit, most_elements, profile_octet, twice}
use Rattle.elements.specs.Judge.{first_of, ◌when◌, contents_rules, refusal_of}
use Rattle.elements.specs.ShapeRefusal.{shape_refusal}

-- the last test counts where none before it refuses
then-last : (a b c d : Bool) → first_of (contents_rules a b c ++ (15 when d) ∷ [])
    ≡ cond (eqb (first_of (contents_rules a b c)) 0) (cond d 15 0) (first_of (contents_rules a b c))
then-last true true true d = refl
then-last true true false d = refl
then-last true false c d = refl
then-last false b c d = refl

module _ (edition : Edition) (done : List Element) (type : List ℕ) (run : Tree) where
  pub refusal-9 : leb most_elements (length done) ≡ true → refusal_of edition done type run ≡ 9
  unfolding refusal_of
  refusal-9 e = rw e

  module _ (few : leb most_elements (length done) ≡ false) where
    pub refusal-10 : is (shape_of edition type).octet type ≡ false → refusal_of edition done type run ≡ 10
    unfolding refusal_of
    refusal-10 e = rw (few, e)

    module _ (known : is (shape_of edition type).octet type ≡ true) where
      pub refusal-11 : xor (eqb (length done) 0) (is profile_octet type) ≡ true → refusal_of edition done type run ≡ 11
      unfolding refusal_of
      refusal-11 e = rw (few, known, e)

      pub refusal-by-shape : xor (eqb (length done) 0) (is profile_octet type) ≡ false
          → refusal_of edition done type run
          ≡ cond (eqb (shape_refusal (shape_of edition type) run) 0) (cond (twice done (element_of (shape_of edition type) run)) 15 0)
          (shape_refusal (shape_of edition type) run)
      unfolding refusal_of shape_refusal
      refusal-by-shape e =
          let shape = shape_of edition type in
          rw (few, known, e)
          (then-last (as_tabled shape.contents run) (type_fits (types_of shape.contents) (value_at (type_octet shape.contents) run))
          (names_fit (element_of shape run))
          (twice done (element_of shape run)))
