-- Descriptor bodies and the verdict on each, from an independent reading of W-210: all is computed.
use mathlib.Core.Path.{◌≡◌, refl}
use mathlib.Core.List.{List, [], ◌∷◌, map}
use Prim.Native.Nat.{ℕ}
use Rattle.headers.specs.Head.{big_endian_from}
use Rattle.tree.specs.Tree.{Tree, empty, leaf, branch}
use Rattle.contents.specs.Search.{amount, first_run}
use Rattle.measures.specs.Integers.{shortest, is_integer, is_negative, distance_of, integer_of}
use Rattle.measures.specs.Verdicts.{within, verdict_of_sizes, verdict_of_two}
use Rattle.dimensions.specs.Dimensions.{verdict_of_items, verdict_of_body}

-- items 80, and an A4 that holds items
abbrev fixed : (value : List ℕ) → Tree → Tree
fixed value after = leaf (0x80 ∷ []) value after

abbrev dimensions : (items after : Tree) → Tree
dimensions items after = branch (0xA4 ∷ []) items after

-- a body with one A4, and in it two items 80
abbrev sized : (horizontal vertical : List ℕ) → Tree
sized horizontal vertical = dimensions (fixed horizontal (fixed vertical empty)) empty

abbrev bodies : List Tree
bodies =
    empty
    ∷ sized (0x24 ∷ 0x18 ∷ []) (0x30 ∷ 0x70 ∷ [])
    ∷ sized (0x30 ∷ 0x70 ∷ []) (0x24 ∷ 0x18 ∷ [])
    ∷ sized (0x24 ∷ 0x19 ∷ []) (0x30 ∷ 0x70 ∷ [])
    ∷ sized (0x24 ∷ 0x18 ∷ []) (0x30 ∷ 0x71 ∷ [])
    ∷ sized (0x26 ∷ 0xC0 ∷ []) (0x36 ∷ 0xCE ∷ [])
    ∷ sized (0x36 ∷ 0xCE ∷ []) (0x4D ∷ 0x80 ∷ [])
    ∷ sized (0x4D ∷ 0x80 ∷ []) (0x36 ∷ 0xCE ∷ [])
    ∷ sized (0x36 ∷ 0xCF ∷ []) (0x4D ∷ 0x80 ∷ [])
    ∷ sized (0x36 ∷ 0xCE ∷ []) (0x4D ∷ 0x81 ∷ [])
    ∷ sized (0x01 ∷ []) (0x00 ∷ 0x80 ∷ [])
    ∷ sized (0x00 ∷ []) (0x30 ∷ 0x70 ∷ [])
    ∷ sized (0x24 ∷ 0x18 ∷ []) (0xFF ∷ [])
    ∷ sized (0x00 ∷ 0x24 ∷ 0x18 ∷ []) (0x30 ∷ 0x70 ∷ [])
    ∷ sized (0x24 ∷ 0x18 ∷ []) (0xFF ∷ 0x80 ∷ [])
    ∷ sized (0x01 ∷ 0x00 ∷ 0x00 ∷ 0x00 ∷ 0x00 ∷ []) (0x30 ∷ 0x70 ∷ [])
    ∷ sized [] (0x30 ∷ 0x70 ∷ [])
    ∷ dimensions empty empty
    ∷ dimensions (fixed (0x01 ∷ []) empty) empty
    ∷ dimensions (fixed (0x01 ∷ []) (fixed (0x01 ∷ []) (fixed (0x01 ∷ []) empty))) empty
    ∷ dimensions (fixed (0x01 ∷ []) (leaf (0x81 ∷ []) (0x01 ∷ []) empty)) empty
    ∷ dimensions (fixed (0x01 ∷ []) (fixed (0x01 ∷ []) empty)) (sized (0x24 ∷ 0x19 ∷ []) (0x30 ∷ 0x70 ∷ []))
    ∷ []

pub judged : map verdict_of_body bodies ≡ 0 ∷ 1 ∷ 1 ∷ 2 ∷ 2 ∷ 2 ∷ 2 ∷ 2 ∷ 3 ∷ 3 ∷ 1 ∷ 3 ∷ 3 ∷ 4 ∷ 4 ∷ 4 ∷ 4 ∷ 4 ∷ 4 ∷ 4 ∷ 4 ∷ 4 ∷ []
unfolding amount first_run big_endian_from shortest is_integer is_negative distance_of integer_of within verdict_of_sizes verdict_of_two verdict_of_items verdict_of_body
judged = refl
