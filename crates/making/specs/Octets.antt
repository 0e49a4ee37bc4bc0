-- The stream of a letter that is made, from front to back: how code writes it, with no tree and nothing measured twice. An identifier, a
-- space and a portion are at most 64 octets, so all lengths but two are one octet. That this is the tree's normal form, piece by piece, is
-- `octets-are` (proofs/Octets).
use Rattle.std.specs.Prelude.{ℕ, ◌+◌, List, [], ◌∷◌, ◌++◌, cond, ltb, length}
use Rattle.octets.specs.Walk.{stream_limit}
use Rattle.names.specs.Names.{space_byte}
use Rattle.normal.specs.Normal.{further_octets, length_octets}
use Rattle.making.specs.Entries.{Said}

-- how many octets an identifier and a portion have
abbrev pub name_size : Said → ℕ
name_size said = length said.identifier + length said.portion

-- an item with a type field of one octet and a value of so many
abbrev pub item_size : ℕ → ℕ
item_size size = 2 + further_octets size + size

-- the value of a text unit, by the octets of its names and its text: 31 with its 40, then 04
abbrev pub unit_size_by : (names text : ℕ) → ℕ
unit_size_by names text = names + 5 + item_size text

-- a block and its text unit
abbrev pub entry_size_by : (names text : ℕ) → ℕ
entry_size_by names text = names + 13 + item_size (unit_size_by names text)

abbrev pub unit_size : Said → ℕ
unit_size said = unit_size_by (name_size said) (length said.text)

abbrev pub entry_size : Said → ℕ
entry_size said = entry_size_by (name_size said) (length said.text)

-- an octet and the length octets of a value of so many
abbrev pub header : (octet size : ℕ) → List ℕ
header octet size = octet ∷ length_octets size

-- what comes before the identifier of a block, before its portion, and before the identifier of a text unit
abbrev pub block_front : (names identifier : ℕ) → List ℕ
block_front names identifier = 0xA2 ∷ (names + 11) ∷ 0x02 ∷ 0x01 ∷ 0x04 ∷ 0x31 ∷ (names + 6) ∷ 0x41 ∷ identifier ∷ []

abbrev pub portion_front : (portion : ℕ) → List ℕ
portion_front portion = 0xA1 ∷ (portion + 2) ∷ 0x12 ∷ portion ∷ []

abbrev pub unit_front : (names : ℕ) → List ℕ
unit_front names = 0x31 ∷ (names + 3) ∷ 0x40 ∷ (names + 1) ∷ []

-- a block, and what follows it
unfoldable pub block_octets : Said → (after : List ℕ) → List ℕ
block_octets said after =
    block_front (name_size said) (length said.identifier)
    ++ (said.identifier
    ++ (portion_front (length said.portion)
    ++ (said.portion
    ++ after)))

-- a text unit, and what follows it
unfoldable pub unit_octets : Said → (after : List ℕ) → List ℕ
unit_octets said after =
    header 0xA3 (unit_size said)
    ++ (unit_front (name_size said)
    ++ (said.identifier
    ++ space_byte ∷ (said.portion
    ++ (header 0x04 (length said.text)
    ++ (said.text
    ++ after)))))

-- the octets of one entry
abbrev pub entry_octets : Said → List ℕ
entry_octets said = block_octets said (unit_octets said [])

-- entry after entry
unfoldable pub entries_octets : List Said → List ℕ
entries_octets [] = []
entries_octets (said ∷ more) = block_octets said (unit_octets said (entries_octets more))

unfoldable pub entries_size : List Said → ℕ
entries_size [] = 0
entries_size (said ∷ more) = entry_size said + entries_size more

-- the stream, and its length
abbrev pub stream_octets : List Said → List ℕ
stream_octets said = 0xA0 ∷ 0x00 ∷ entries_octets said

abbrev pub stream_size : List Said → ℕ
stream_size said = 2 + entries_size said

-- A size as code adds it up: whatever is over the limit of a stream counts as one more than that limit, so no sum grows further.
unfoldable pub capped : ℕ → ℕ
capped size = cond (ltb stream_limit size) (stream_limit + 1) size
