-- The rules of an element in three steps, 9 to 11, 12 to 14 and 15, of which the first that refuses counts; and what an element does to
-- the judge of a run.
use mathlib.Core.Path.{◌≡◌, refl, ◌∙◌}
use mathlib.Core.Bool.{Bool, true, false, cond, xor}
use mathlib.Core.List.{List, [], ◌∷◌, ◌++◌}
use Prim.Native.Nat.{ℕ, ◌<◌}
use native.Mathlib.Omega.{arith}
use borrow.Author.Tests.{eq-eqb, ne_eqb, leb-false}
use borrow.Table.Steps.{cases}
use lib.Dec.{eqb, leb}
use lib.ListN.{length}
use Rattle.headers.specs.Head.{constructed, type_field}
use Rattle.octets.specs.Walk.{Items, no_items, item}
use Rattle.tree.specs.Tree.{Tree, plain}
use Rattle.runs.specs.Runs.{tops}
use Rattle.contents.specs.Search.{is}
use Rattle.contents.proofs.Firsts.{is_field}
use Rattle.elements.specs.declared.Edition.{Edition}
use Rattle.elements.specs.Judge.{Element, most_elements, profile_octet, twice, refusal_of, refused, judge_one, judge_from, judge}
use Rattle.elements.specs.ShapeRefusal.{shape_refusal}
use Rattle.elements.proofs.Refusals.{refusal-9, refusal-10, refusal-11, refusal-by-shape}
use Rattle.judging.specs.Judges.{early_refusal, shape_by, element_by}

-- of rules that do not refuse the first does not, nor do those after it
pub passed : (number : ℕ) (refuses : Bool) (others : ℕ) → (number ≡ 0 → ⊥) → cond refuses number others ≡ 0 → (refuses ≡ false) × (others ≡ 0)
passed number true others some e = absurd (some e)
passed number false others some e = (refl, e)

module _ (edition : Edition) (done : List Element) (code : ℕ) (run : Tree) where
  abbrev early : ℕ
  early = early_refusal (length done) code (shape_by edition code).octet

  abbrev later : ℕ
  later = shape_refusal (shape_by edition code) run

  abbrev number : ℕ
  number = refusal_of edition done (type_field code) run

  in-steps : number ≡ cond (eqb early 0) (cond (eqb later 0) (cond (twice done (element_by edition code run)) 15 0) later) early
  unfolding early_refusal
  in-steps =
      let type = type_field code in
      cases (leb most_elements (length done)) (λ many. refusal-9 edition done type run many ∙ rw many)
      (λ few.
      cases (is (shape_by edition code).octet type)
      (λ known.
      cases (xor (eqb (length done) 0) (is profile_octet type))
      (λ misplaced. refusal-11 edition done type run few known misplaced ∙ rw (few, known, misplaced))
      (λ placed. refusal-by-shape edition done type run few known placed ∙ rw (few, known, placed)))
      (λ unknown. refusal-10 edition done type run few unknown ∙ rw (few, unknown)))

  pub refused-early : (n : ℕ) → n ≡ early → (n ≡ 0 → ⊥) → number ≡ n
  refused-early n e some = in-steps ∙ rw (← e, ne_eqb n 0 some)

  module _ (first-passed : early ≡ 0) where
    pub refused-later : (n : ℕ) → n ≡ later → (n ≡ 0 → ⊥) → number ≡ n
    refused-later n e some = in-steps ∙ rw (first-passed, ← e, ne_eqb n 0 some)

    pub refused-last : later ≡ 0 → (b : Bool) → twice done (element_by edition code run) ≡ b → number ≡ cond b 15 0
    refused-last passed b e = in-steps ∙ rw (first-passed, passed, e)

  -- an element that no rule refuses has a number below 4,096
  pub unrefused-few : number ≡ 0 → length done < most_elements
  unfolding refusal_of
  unrefused-few e = leb-false most_elements (length done) (passed 9 (leb most_elements (length done)) _ (λ q. absurd (omega arith)) e).0

-- whether the type field of a code is an octet's, told by the code
pub is_known : (code known : ℕ) → code ≡ known → is known (type_field code) ≡ true
is_known code known e = is_field known code ∙ eq-eqb code known e

pub is-other : (code known : ℕ) → (code ≡ known → ⊥) → is known (type_field code) ≡ false
is-other code known e = is_field known code ∙ ne_eqb code known e

-- an item of a run, and then those after it
module _ (edition : Edition) (s : List ℕ) (done : List Element) (at code first past : ℕ) (inside after : Items)
    (nothing-inside : constructed code ≡ false → inside ≡ no_items) where
  pub judged-one : judge_from edition done (plain s (item at code first past inside after))
      ≡ judge_one edition done (type_field code) (plain s inside) (λ more. judge_from edition more (plain s after))
  unfolding judge_from
  judged-one = cases (constructed code) (λ t. rw t) (λ t. rw (t, nothing-inside t))

  pub judged-refused : (n : ℕ) → refusal_of edition done (type_field code) (plain s inside) ≡ n → (n ≡ 0 → ⊥)
      → judge_from edition done (plain s (item at code first past inside after)) ≡ refused n (length done)
  unfolding judge_one
  judged-refused n e some = judged-one ∙ rw (e, ne_eqb n 0 some)

  pub judged-passed : refusal_of edition done (type_field code) (plain s inside) ≡ 0
      → judge_from edition done (plain s (item at code first past inside after))
      ≡ judge_from edition (done ++ element_by edition code (plain s inside) ∷ []) (plain s after)
  unfolding judge_one
  judged-passed e = judged-one ∙ rw e

-- a stream with elements is judged from its first
pub judge-some : (edition : Edition) (s : List ℕ) (items : Items) → 0 < tops items → judge edition (plain s items) ≡ judge_from edition [] (plain s items)
unfolding judge
judge-some edition s no_items some = absurd (omega arith)
judge-some edition s (item at code first past inside after) some = cases (constructed code) (λ t. rw t) (λ t. rw t)
