-- The stream from front to back is the normal form of the tree: an item's length octets say the length of what follows, and the short ones
-- are one octet.
use mathlib.Core.Path.{◌≡◌, refl, ap, ◌∙◌}
use mathlib.Core.List.{List, [], ◌∷◌, ◌++◌, append_assoc, append-nil}
use Prim.Native.Nat.{ℕ, ◌+◌, ◌<◌, ◌≤◌}
use native.Mathlib.Omega.{arith}
use lib.ListN.{length, length-append}
use borrow.Author.Tests.{lt-ltb}
use Rattle.names.specs.Names.{space_byte, longest_identifier}
use Rattle.tree.specs.Tree.{Tree, empty, leaf, branch}
use Rattle.normal.specs.Normal.{length_octets, coded, normal_of}
use Rattle.normal.proofs.Lengths.{length-length}
use Rattle.making.specs.Entries.{Said, unit_name}
use Rattle.making.specs.Stream.{block_type, block_run, unit_type, unit_run, entries_tree, stream_of}
use Rattle.making.specs.Octets.{name_size, unit_size, entry_size, block_octets, unit_octets, entries_octets, entries_size, stream_octets, stream_size}

-- a length below 128 is one octet
pub short : (n : ℕ) → n < 128 → length_octets n ≡ n ∷ []
short n l = rw (lt-ltb n 0x80 l)

-- an item with a value of n octets: primitive, or a run whose normal form is known; with any length, or one below 128
module _ (octet n : ℕ) where
  leaf-is : (value : List ℕ) (after : Tree) → length value ≡ n
      → normal_of (leaf (octet ∷ []) value after) ≡ octet ∷ (length_octets n ++ (value ++ normal_of after))
  unfolding normal_of
  leaf-is value after e = ap (λ (k : ℕ). octet ∷ (length_octets k ++ (value ++ normal_of after))) e

  branch-is : (inside after : Tree) (value : List ℕ) → normal_of inside ≡ value → length value ≡ n
      → normal_of (branch (octet ∷ []) inside after) ≡ octet ∷ (length_octets n ++ (value ++ normal_of after))
  unfolding normal_of
  branch-is inside after value v e =
      ap (λ (l : List ℕ). coded (octet ∷ []) l (normal_of after)) v ∙ ap (λ (k : ℕ). octet ∷ (length_octets k ++ (value ++ normal_of after))) e

  module _ (l : n < 128) where
    leaf-short : (value : List ℕ) (after : Tree) → length value ≡ n → normal_of (leaf (octet ∷ []) value after) ≡ octet ∷ n ∷ (value ++ normal_of after)
    leaf-short value after e = leaf-is value after e ∙ ap (λ (k : List ℕ). octet ∷ (k ++ (value ++ normal_of after))) (short n l)

    branch-short : (inside after : Tree) (value : List ℕ) → normal_of inside ≡ value → length value ≡ n
        → normal_of (branch (octet ∷ []) inside after) ≡ octet ∷ n ∷ (value ++ normal_of after)
    branch-short inside after value v e =
        branch-is inside after value v e ∙ ap (λ (k : List ℕ). octet ∷ (k ++ (value ++ normal_of after))) (short n l)

    -- the last of a run
    leaf_last : (value : List ℕ) → length value ≡ n → normal_of (leaf (octet ∷ []) value empty) ≡ octet ∷ n ∷ value
    unfolding normal_of
    leaf_last value e = leaf-short value empty e ∙ ap (λ (k : List ℕ). octet ∷ n ∷ k) (append-nil value)

    branch-last : (inside : Tree) (value : List ℕ) → normal_of inside ≡ value → length value ≡ n
        → normal_of (branch (octet ∷ []) inside empty) ≡ octet ∷ n ∷ value
    unfolding normal_of
    branch-last inside value v e = branch-short inside empty value v e ∙ ap (λ (k : List ℕ). octet ∷ n ∷ k) (append-nil value)

module _ (x : Said) (few : length (unit_name x) ≤ longest_identifier) where
  abbrev i : ℕ
  i = length x.identifier

  abbrev p : ℕ
  p = length x.portion

  pub name-short : name_size x + 1 ≤ 64
  name-short = let e = length-append x.identifier (space_byte ∷ x.portion) in omega arith

  -- what a block names: its identifier and its portions
  abbrev named : List ℕ
  named = 0x41 ∷ i ∷ (x.identifier ++ 0xA1 ∷ (p + 2) ∷ 0x12 ∷ p ∷ x.portion)

  named-are : normal_of (leaf (0x41 ∷ []) x.identifier (branch (0xA1 ∷ []) (leaf (0x12 ∷ []) x.portion empty) empty)) ≡ named
  named-are =
      let n = name-short in
      let portion = leaf_last 0x12 p (omega arith) x.portion refl in
      let portions = branch-last 0xA1 (p + 2) (omega arith) (leaf (0x12 ∷ []) x.portion empty) (0x12 ∷ p ∷ x.portion) portion (omega arith) in
      leaf-short 0x41 i (omega arith) x.identifier (branch (0xA1 ∷ []) (leaf (0x12 ∷ []) x.portion empty) empty) refl
      ∙ ap (λ (l : List ℕ). 0x41 ∷ i ∷ (x.identifier ++ l)) portions

  named-size : length named ≡ name_size x + 6
  named-size = let e = length-append x.identifier (0xA1 ∷ (p + 2) ∷ 0x12 ∷ p ∷ x.portion) in omega arith

  block_inside : normal_of (block_run x) ≡ 0x02 ∷ 0x01 ∷ 0x04 ∷ 0x31 ∷ (name_size x + 6) ∷ named
  block_inside =
      let n = name-short in
      leaf-short 0x02 1 (omega arith) (0x04 ∷ []) _ refl
      ∙ ap (λ (l : List ℕ). 0x02 ∷ 0x01 ∷ 0x04 ∷ l) (branch-last 0x31 (name_size x + 6) (omega arith) _ named named-are named-size)

  block-are : (after : Tree) → normal_of (branch block_type (block_run x) after) ≡ block_octets x (normal_of after)
  unfolding block_octets
  block-are after =
      let n = name-short in
      let e = named-size in
      branch-short 0xA2 (name_size x + 11) (omega arith) (block_run x) after (0x02 ∷ 0x01 ∷ 0x04 ∷ 0x31 ∷ (name_size x + 6) ∷ named) block_inside (omega arith)
      ∙ rw (append_assoc x.identifier (0xA1 ∷ (p + 2) ∷ 0x12 ∷ p ∷ x.portion) (normal_of after))

  -- what a unit says: its name, and the text
  abbrev name : List ℕ
  name = 0x31 ∷ (name_size x + 3) ∷ 0x40 ∷ (name_size x + 1) ∷ unit_name x

  abbrev text : List ℕ
  text = 0x04 ∷ (length_octets (length x.text) ++ x.text)

  text-are : normal_of (leaf (0x04 ∷ []) x.text empty) ≡ text
  unfolding normal_of
  text-are = leaf-is 0x04 (length x.text) x.text empty refl ∙ ap (λ (l : List ℕ). 0x04 ∷ (length_octets (length x.text) ++ l)) (append-nil x.text)

  name-size : length (unit_name x) ≡ name_size x + 1
  name-size = length-append x.identifier (space_byte ∷ x.portion) ∙ omega arith

  unit-inside : normal_of (unit_run x) ≡ name ++ text
  unit-inside =
      let n = name-short in
      let e = name-size in
      let inner = leaf_last 0x40 (name_size x + 1) (omega arith) (unit_name x) name-size in
      branch-short 0x31 (name_size x + 3) (omega arith) _ (leaf (0x04 ∷ []) x.text empty) (0x40 ∷ (name_size x + 1) ∷ unit_name x) inner (omega arith)
      ∙ ap (λ (l : List ℕ). name ++ l) text-are

  unit-value : length (name ++ text) ≡ unit_size x
  unit-value =
      let e = name-size in
      let f = length-append (unit_name x) text in
      let g = length-append (length_octets (length x.text)) x.text in
      let h = length-length (length x.text) in
      omega arith

  unit-are : (after : Tree) → normal_of (branch unit_type (unit_run x) after) ≡ unit_octets x (normal_of after)
  unfolding unit_octets
  unit-are after =
      branch-is 0xA3 (unit_size x) (unit_run x) after (name ++ text) unit-inside unit-value
      ∙ ap (λ (l : List ℕ). 0xA3 ∷ (length_octets (unit_size x) ++ 0x31 ∷ (name_size x + 3) ∷ 0x40 ∷ (name_size x + 1) ∷ l)) (simp append_assoc)

  -- how long an entry is
  entry-size : (after : List ℕ) → length (block_octets x (unit_octets x after)) ≡ entry_size x + length after
  unfolding block_octets unit_octets
  entry-size after =
      let f = length-length (length x.text) in
      let g = length-length (unit_size x) in
      simp length-append (omega arith)

-- unit identifiers of at most 64 octets
abbrev pub Short : List Said → Type 0
Short [] = Unit {0}
Short (x ∷ said) = (length (unit_name x) ≤ longest_identifier) × Short said

entries-are : (said : List Said) → Short said → normal_of (entries_tree said) ≡ entries_octets said
unfolding entries_tree entries_octets normal_of
entries-are [] s = refl
entries-are (x ∷ said) (few, s) =
    block-are x few (branch unit_type (unit_run x) (entries_tree said))
    ∙ ap (block_octets x) (unit-are x few (entries_tree said) ∙ ap (unit_octets x) (entries-are said s))

-- The stream is its octets from front to back.
pub octets-are : (said : List Said) → Short said → stream_of said ≡ stream_octets said
unfolding normal_of
octets-are said s = ap (λ (l : List ℕ). 0xA0 ∷ 0x00 ∷ l) (entries-are said s)

-- how long they are
pub entries-size : (said : List Said) → Short said → length (entries_octets said) ≡ entries_size said
unfolding entries_octets entries_size
entries-size [] s = refl
entries-size (x ∷ said) (few, s) = entry-size x few (entries_octets said) ∙ ap (λ (n : ℕ). entry_size x + n) (entries-size said s)

-- Its length is known from the lengths of the parts.
pub size_is : (said : List Said) → Short said → length (stream_of said) ≡ stream_size said
size_is said s = ap length (octets-are said s) ∙ (let e = entries-size said s in omega arith)
