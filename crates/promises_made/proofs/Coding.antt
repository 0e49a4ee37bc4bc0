-- The octets of a letter that is made are coded as X.209 says, whatever its entries say: its type fields, levels and values are right, and
-- the normal form of a tree that is so codes the tree.
use mathlib.Core.Path.{◌≡◌, refl}
use mathlib.Core.Bool.{true, false}
use mathlib.Core.List.{List, [], ◌∷◌}
use Prim.Native.Nat.{ℕ, zero, suc, ◌*◌, ◌^◌, ◌<◌}
use native.Mathlib.Omega.{arith}
use lib.ListN.{length}
use Rattle.headers.specs.Head.{number_bits, constructed, permits, form_allowed, misfits, code_of}
use Rattle.octets.specs.Walk.{deepest}
use Rattle.tree.specs.Tree.{Tree, empty, leaf, branch, TypeField, one_octet, Codes, nothing, primitive, definite}
use Rattle.normal.specs.Normal.{normal_of}
use Rattle.normal.proofs.Normals.{shortest, coded-length}
use Rattle.promises.specs.Demands.{item_count}
use Rattle.making.specs.Entries.{Said}
use Rattle.making.specs.Stream.{entries_tree, letter_tree}
use Rattle.promises_made.specs.Reads.{items_for}

-- a tree that can be coded with so many levels
abbrev pub Codable : (room : ℕ) → Tree → Type 0
Codable room empty = Unit {0}
Codable zero (leaf type value after) = ⊥
Codable (suc room) (leaf type value after) = TypeField type false × (misfits (code_of type) (length value) ≡ false) × Codable (suc room) after
Codable zero (branch type inside after) = ⊥
Codable (suc room) (branch type inside after) = TypeField type true × Codable room inside × Codable (suc room) after

-- its normal form codes it
pub codable-codes : (room : ℕ) (t : Tree) → Codable room t → length (normal_of t) < 256 ^ 4 → Codes room t (normal_of t)
unfolding normal_of
codable-codes room empty c l = nothing
codable-codes zero (leaf type value after) c l = absurd c
codable-codes (suc room) (leaf type value after) (g, m, c) l =
    let e = coded-length type value (normal_of after) in
    primitive g m (shortest (length value) (omega arith)) (codable-codes (suc room) after c (omega arith))
codable-codes zero (branch type inside after) c l = absurd c
codable-codes (suc room) (branch type inside after) (g, i, c) l =
    let e = coded-length type (normal_of inside) (normal_of after) in
    definite g (shortest (length (normal_of inside)) (omega arith)) (codable-codes room inside i (omega arith)) (codable-codes (suc room) after c (omega arith))

-- a type field of one octet
field : (octet : ℕ) → (number_bits octet ≡ 31 → ⊥) → form_allowed octet ≡ true → TypeField (octet ∷ []) (constructed octet)
field octet n f = one_octet n f refl

entries-codable : (said : List Said) → Codable deepest (entries_tree said)
unfolding entries_tree permits form_allowed misfits
entries-codable [] = tt
entries-codable (x ∷ said) = (
  field 0xA2 (λ e. omega arith) refl,
  (
    field 0x02 (λ e. omega arith) refl,
    refl,
    (
      field 0x31 (λ e. omega arith) refl,
      (
        field 0x41 (λ e. omega arith) refl,
        refl,
        (field 0xA1 (λ e. omega arith) refl, (field 0x12 (λ e. omega arith) refl, refl, tt), tt),
      ),
      tt,
    ),
  ),
  (
    field 0xA3 (λ e. omega arith) refl,
    (field 0x31 (λ e. omega arith) refl, (field 0x40 (λ e. omega arith) refl, refl, tt), (field 0x04 (λ e. omega arith) refl, refl, tt)),
    entries-codable said,
  ),
)

pub letter-codable : (said : List Said) → Codable deepest (letter_tree said)
unfolding permits form_allowed
letter-codable said = (field 0xA0 (λ e. omega arith) refl, tt, entries-codable said)

entry-items : (said : List Said) → item_count (entries_tree said) ≡ 10 * length said
unfolding entries_tree
entry-items [] = refl
entry-items (x ∷ said) = let e = entry-items said in omega arith

-- the items of the letter
pub letter-items : (said : List Said) → item_count (letter_tree said) ≡ items_for (length said)
letter-items said = let e = entry-items said in omega arith
