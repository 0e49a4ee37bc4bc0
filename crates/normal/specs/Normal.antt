-- The normal form of a tree of items, and of a stream. Document 01, "Table, list, part, normal form": "each item in the same order,
-- definite, with the fewest length octets"; X.209, 6.3.3. That they are the fewest is `fewest` (proofs/Fewest).
use Rattle.std.specs.Prelude.{ℕ, ◌/◌, zero, suc, ◌%◌, ◌+◌, ◌<◌, List, [], ◌∷◌, ◌++◌, length, cond, ltb}
use Rattle.headers.specs.Head.{octet_at}
use Rattle.tree.specs.Tree.{empty, Tree, leaf, branch, tree_of}

-- how many length octets follow the first: none where the first is the length, else as many as it takes to hold it
abbrev pub further_octets : ℕ → ℕ
further_octets n = cond (ltb n 0x80) 0 (cond (ltb n 0x100) 1 (cond (ltb n 0x10000) 2 (cond (ltb n 0x1000000) 3 4)))

-- n as k octets, most significant first
unfoldable pub number_octets : (k n : ℕ) → List ℕ
number_octets zero n = []
number_octets (suc k) n = number_octets k (n / 256) ++ (n % 256 ∷ [])

-- "00 to 7F is the length .. 81 to 84 say how many length octets follow"
abbrev pub length_by : (further n : ℕ) → List ℕ
length_by zero n = n ∷ []
length_by (suc k) n = (0x80 + suc k) ∷ number_octets (suc k) n

-- the length octets of a value of n octets
abbrev pub length_octets : ℕ → List ℕ
length_octets n = length_by (further_octets n) n

-- numbers that are octets, as those of every slice of octets are
abbrev pub Octets : List ℕ → Type 0
Octets s = (i : ℕ) → octet_at s i < 256

-- an item with the fewest length octets, and what follows it
abbrev pub coded : (type value after : List ℕ) → List ℕ
coded type value after = type ++ (length_octets (length value) ++ (value ++ after))

-- the normal form of a tree
unfoldable pub normal_of : Tree → List ℕ
normal_of empty = []
normal_of (leaf type value after) = coded type value (normal_of after)
normal_of (branch type inside after) = coded type (normal_of inside) (normal_of after)

-- the normal form of a stream
abbrev pub normal_form : List ℕ → List ℕ
normal_form s = normal_of (tree_of s)
