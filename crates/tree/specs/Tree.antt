-- The tree of items that a stream stands for. Document 01, "Octet rules": "The tree of items holds for each item its class, form and
-- number with its value octets, if primitive, or its run in order, if constructed; length octets and closing marks are no part of it."
-- Then which octets code a tree: X.209's own account (6.1 to 6.5), within document 01's levels. It has no positions, nothing that counts
-- down to an end, and no limit. That the walk accepts exactly the streams that it relates to a tree, is `means` and `accepts`
-- (proofs/Meaning).
use Rattle.std.specs.Prelude.{ℕ, ◌≤◌, ◌<◌, ◌+◌, suc, Bool, true, false, List, [], ◌∷◌, ◌++◌, length, ◌≡◌}
use Rattle.std.proofs.Math.Seq.{slice}
use Rattle.headers.specs.Head.{constructed, type_field, number_bits, form_allowed, is_in, above_thirty, big_endian, misfits, code_of}
use Rattle.octets.specs.Walk.{Items, no_items, item, run, deepest}

-- A run of items: nothing; a primitive item with its value octets, and the items after it; or a constructed item with the run inside
-- it, and the items after it. The type field has the octets of class, form and number.
pub data Tree : Type 0 where
  empty : Tree
  leaf : (type value : List ℕ) → (after : Tree) → Tree
  branch : (type : List ℕ) → (inside after : Tree) → Tree

-- an item with its value or its run, by its form
abbrev pub formed : Bool → (type value : List ℕ) → (inside after : Tree) → Tree
formed true type value inside after = branch type inside after
formed false type value inside after = leaf type value after

-- what items with places stand for
abbrev pub plain : List ℕ → Items → Tree
plain s no_items = empty
plain s (item at code start past inside after) =
    formed (constructed code) (type_field code) (slice start past s) (plain s inside) (plain s after)

-- the tree of a stream
abbrev pub tree_of : List ℕ → Tree
tree_of s = plain s (run deepest s 0 (length s) false).items

-- A type field and its form, which is true if it is constructed.
pub data TypeField : List ℕ → (form : Bool) → Type 0 where
  -- one octet: its number bits are not 11111, and its form is in the table
  one_octet : {octet : ℕ} {form : Bool} → (number_bits octet ≡ 31 → ⊥) → form_allowed octet ≡ true → constructed octet ≡ form
      → TypeField (octet ∷ []) form
  -- numbers 31 to 127, of no universal class: number bits 11111, and one octet more
  two_octets : {first second : ℕ} {form : Bool} → is_in first above_thirty ≡ true → constructed first ≡ form → 31 ≤ second → second < 0x80
      → TypeField (first ∷ second ∷ []) form
  -- numbers 128 to 16,383: two octets more, of which the first has bit 8 set and is not 80, and the last has it not
  three_octets : {first second third : ℕ} {form : Bool} → is_in first above_thirty ≡ true → constructed first ≡ form
      → 0x80 < second → second < 0x100 → third < 0x80 → TypeField (first ∷ second ∷ third ∷ []) form

-- A definite length and its octets.
pub data Length : ℕ → List ℕ → Type 0 where
  -- "00 to 7F is the length"
  short : {n : ℕ} → n < 0x80 → Length n (n ∷ [])
  -- "81 to 84 say how many length octets follow, most significant first .. Leading zero octets are legal."
  long : {octets : List ℕ} → 1 ≤ length octets → length octets ≤ 4 → Length (big_endian octets) ((0x80 + length octets) ∷ octets)

-- The octets of a run of items, with so many levels. An item is its type field, its length octets (len), its value, and what follows
-- the item (rest).
pub data Codes : (room : ℕ) → Tree → List ℕ → Type 0 where
  nothing : {room : ℕ} → Codes room empty []
  -- a primitive item: a definite length, and a value that rule 8 lets pass
  primitive : {room : ℕ} {type len value rest : List ℕ} {after : Tree}
      → TypeField type false → misfits (code_of type) (length value) ≡ false → Length (length value) len
      → Codes (suc room) after rest → Codes (suc room) (leaf type value after) (type ++ (len ++ (value ++ rest)))
  -- a constructed item with a definite length: its value is the run inside it
  definite : {room : ℕ} {type len value rest : List ℕ} {inside after : Tree}
      → TypeField type true → Length (length value) len → Codes room inside value
      → Codes (suc room) after rest → Codes (suc room) (branch type inside after) (type ++ (len ++ (value ++ rest)))
  -- a constructed item with the length octet 80: the run inside it, and the closing mark
  indefinite : {room : ℕ} {type value rest : List ℕ} {inside after : Tree}
      → TypeField type true → Codes room inside value
      → Codes (suc room) after rest → Codes (suc room) (branch type inside after) (type ++ (0x80 ∷ (value ++ (0 ∷ 0 ∷ rest))))
