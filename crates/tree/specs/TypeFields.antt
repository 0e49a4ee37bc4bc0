-- What a type field says: document 01's "class, form and number" of an item. One class, form and number has one type field, and no shorter one:
-- `type-fields` (proofs/TypeFields) is a value of the record below. So the tree of items, which holds type fields, holds "for each item its
-- class, form and number", and W-211's equal trees are equal in these.
use Rattle.std.specs.Prelude.{ℕ, ◌+◌, ◌*◌, ◌/◌, ◌%◌, ◌≤◌, ◌≡◌, Bool, List, [], ◌∷◌, length}
use Rattle.headers.specs.Head.{number_bits, code_of, type_number}
use Rattle.tree.specs.Tree.{TypeField}

-- "class in bits 8 and 7" of the first octet
abbrev pub class_of : (type : List ℕ) → ℕ
class_of [] = 0
class_of (octet ∷ octets) = octet / 64

-- the number that octets go on with, "seven bits each", where those before them are n
abbrev pub sevens_from : ℕ → List ℕ → ℕ
sevens_from n [] = n
sevens_from n (x ∷ xs) = sevens_from (n * 128 + x % 128) xs

-- octets that spell a number as X.209 does, with the fewest or not: one octet, or number bits 11111 and one octet or more after it
pub data Spells : List ℕ → (number : ℕ) → Type 0 where
  in_one : {octet : ℕ} → (number_bits octet ≡ 31 → ⊥) → Spells (octet ∷ []) (number_bits octet)
  in_more : {first second : ℕ} {octets : List ℕ} → number_bits first ≡ 31 → Spells (first ∷ second ∷ octets) (sevens_from 0 (second ∷ octets))

pub record TypeFields : Type 0 where
  -- "class, form and number"
  pub same : (type other : List ℕ) (form : Bool) → TypeField type form → TypeField other form → class_of type ≡ class_of other
      → type_number (code_of type) ≡ type_number (code_of other) → type ≡ other
  -- it spells its number, and "X.209 wants the fewest octets"
  pub spells : (type : List ℕ) (form : Bool) → TypeField type form → Spells type (type_number (code_of type))
  pub fewest : (type : List ℕ) (form : Bool) → TypeField type form → (other : List ℕ) → Spells other (type_number (code_of type)) → length type ≤ length other
