-- When two files are the same letter (W-211): "The duplicate finder compares normal forms byte by byte, and I want to know that it may."
-- `same-letter` (proofs/SameLetter) is a value of the record below.
use Rattle.std.specs.Prelude.{◌≡◌, ◌↔◌, List, [], ◌∷◌, ℕ, ◌≤◌, length, take}
use Rattle.octets.specs.Walk.{deepest}
use Rattle.tree.specs.Tree.{tree_of, Codes}
use Rattle.normal.specs.Normal.{Octets, normal_form}
use Rattle.normal.specs.Forms.{Definite}
use Rattle.elements.specs.declared.Edition.{Edition}
use Rattle.elements.specs.declared.Edition.TheVariants.{Of1988}
use Rattle.answers.specs.Answers.{written, written_output}
use Rattle.promises.specs.Demands.{IsAccepted}

-- what the writer has written of a stream, to an output that is lent
abbrev pub form_written : Edition → (s out : List ℕ) → List ℕ
form_written edition s out = take (written edition s out).length (written_output edition s out)

-- Trees of items, normal forms and what the writer writes. The first four ask of no normal form that it is within the limit: where one is
-- over it, 17, the writer writes none, and they hold all the same.
pub record SameLetter (edition : Edition) : Type 0 where
  -- "two have equal trees of items exactly when their normal forms are equal"
  pub same : (s r : List ℕ) → IsAccepted edition s → IsAccepted edition r → (tree_of s ≡ tree_of r) ↔ (normal_form s ≡ normal_form r)
  -- "making the normal form twice gives the same as once"
  pub twice : (s : List ℕ) → IsAccepted edition s → normal_form (normal_form s) ≡ normal_form s
  -- "and no stream with the same tree, all of whose constructed lengths are definite, is shorter"; the normal form is one such stream
  pub shortest : (s : List ℕ) → IsAccepted edition s → (r : List ℕ) (coded : Codes deepest (tree_of s) r) → Definite coded → Octets r
      → length (normal_form s) ≤ length r
  pub definite : (s : List ℕ) → IsAccepted edition s → (coded : Codes deepest (tree_of s) (normal_form s)) × Definite coded
  -- of two outputs that the writer has written: the finder may compare them octet by octet, and a form that it has written it would
  -- write again
  pub found : (s r out other : List ℕ) → (written edition s out).number ≡ 0 → (written edition r other).number ≡ 0
      → (tree_of s ≡ tree_of r) ↔ (form_written edition s out ≡ form_written edition r other)
  pub again : (s out other : List ℕ) → (written edition s out).number ≡ 0 → length (form_written edition s out) ≤ length other
      → ((written edition (form_written edition s out) other).number ≡ 0) × (form_written edition (form_written edition s out) other ≡ form_written edition s out)

-- "The order of items in a set counts as part of the tree.": two letters whose profiles hold the same two items in a set, 31, in two orders
abbrev pub one_order : List ℕ
one_order = 0xA0 ∷ 0x06 ∷ 0x31 ∷ 0x04 ∷ 0x80 ∷ 0x00 ∷ 0x81 ∷ 0x00 ∷ []

abbrev pub other_order : List ℕ
other_order = 0xA0 ∷ 0x06 ∷ 0x31 ∷ 0x04 ∷ 0x81 ∷ 0x00 ∷ 0x80 ∷ 0x00 ∷ []

pub record OrderCounts : Type 0 where
  pub one : IsAccepted Of1988 one_order
  pub other : IsAccepted Of1988 other_order
  pub trees_differ : tree_of one_order ≡ tree_of other_order → ⊥
  pub forms_differ : normal_form one_order ≡ normal_form other_order → ⊥
