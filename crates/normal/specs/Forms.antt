-- Which forms of length a coding uses: what the theorems about the shortest stream speak of.
use Rattle.std.specs.Prelude.{ℕ, ◌≡◌, List, length}
use Rattle.tree.specs.Tree.{Tree, Codes, nothing, primitive, definite, indefinite}
use Rattle.normal.specs.Normal.{length_octets}

-- no item is indefinite
abbrev pub Definite : {room : ℕ} {t : Tree} {xs : List ℕ} → Codes room t xs → Type 0
Definite nothing = Unit {0}
Definite (primitive g m l c) = Definite c
Definite (definite g l i c) = Definite i × Definite c
Definite (indefinite g i c) = ⊥

-- "each item .. definite, with the fewest length octets"
abbrev pub Shortest : {room : ℕ} {t : Tree} {xs : List ℕ} → Codes room t xs → Type 0
Shortest nothing = Unit {0}
Shortest (primitive {len = len} {value} g m l c) = (len ≡ length_octets (length value)) × Shortest c
Shortest (definite {len = len} {value} g l i c) = (len ≡ length_octets (length value)) × Shortest i × Shortest c
Shortest (indefinite g i c) = ⊥
