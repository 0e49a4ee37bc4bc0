-- The portions of an element. Document 01, "Element rules": "portions, every item in it 12", "A portion number is 1 to 16 digits; one
-- element has at most 64", "no element lists a portion twice".
use Rattle.std.specs.Prelude.{ℕ, Bool, true, false, ◌&&◌, ◌||◌, List, [], ◌∷◌, map, leb, length}
use Rattle.names.specs.Names.{is_portion, same}
use Rattle.tree.specs.Tree.{Tree, empty, leaf, branch}
use Rattle.contents.specs.Search.{is}

-- "one element has at most 64"
abbrev pub most_portions : ℕ
most_portions = 64

-- "every item in it 12"
unfoldable pub all_portions : Tree → Bool
all_portions empty = true
all_portions (leaf type value after) = is 0x12 type && all_portions after
all_portions (branch type inside after) = false

-- the values of the primitive items of a run, in order
unfoldable pub values : Tree → List (List ℕ)
values empty = []
values (leaf type value after) = value ∷ values after
values (branch type inside after) = values after

-- whether all, or any, of a list of tests hold
abbrev pub all : List Bool → Bool
all [] = true
all (t ∷ ts) = t && all ts

abbrev pub any : List Bool → Bool
any [] = false
any (t ∷ ts) = t || any ts

-- at most 64 portion numbers, each well spelt
unfoldable pub well_spelt : List (List ℕ) → Bool
well_spelt vs = leb (length vs) most_portions && all (map is_portion vs)

-- whether v is one of a list, byte by byte
unfoldable pub among : List ℕ → List (List ℕ) → Bool
among v vs = any (map (same v) vs)

-- whether a list has a value twice
unfoldable pub repeats : List (List ℕ) → Bool
repeats [] = false
repeats (v ∷ vs) = among v vs || repeats vs
