-- A string in pieces. X.209 lets an octet string and a bit string be constructed; W-201: "the octet string is constructed, 24, holding 04 and
-- 24 items down to the level limit. .. The content is the pieces joined in order." Over the tree: places and length octets are no part of it.
use Rattle.std.specs.Prelude.{ℕ, Bool, true, ◌&&◌, List, [], ◌++◌}
use Rattle.tree.specs.Tree.{Tree, empty, leaf, branch}
use Rattle.contents.specs.Search.{is}

-- "holding 04 and 24 items down to the level limit": items with the octet of a piece, and constructed ones that hold such items
unfoldable pub only_pieces : (piece pieces : ℕ) → Tree → Bool
only_pieces piece pieces empty = true
only_pieces piece pieces (leaf type value after) = is piece type && only_pieces piece pieces after
only_pieces piece pieces (branch type inside after) = is pieces type && only_pieces piece pieces inside && only_pieces piece pieces after

-- an octet string is 04, or 24 with pieces; a bit string is 03, or 23 with pieces
abbrev pub octet_pieces : Tree → Bool
octet_pieces = only_pieces 0x04 0x24

abbrev pub bit_pieces : Tree → Bool
bit_pieces = only_pieces 0x03 0x23

-- "the pieces joined in order"
unfoldable pub joined : Tree → List ℕ
joined empty = []
joined (leaf type value after) = value ++ joined after
joined (branch type inside after) = joined inside ++ joined after
