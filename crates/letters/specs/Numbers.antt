-- The numbers of a row as they are kept: each in 32 bits.
use Rattle.std.specs.Prelude.{ℕ, ◌<◌, List, [], ◌∷◌}
use Rattle.elements.specs.declared.Row.{Row}
use Rattle.elements.specs.ElementRows.{cells}

-- all numbers of a list are below another
abbrev pub Below : (limit : ℕ) → List ℕ → Type 0
Below limit [] = Unit {0}
Below limit (x ∷ xs) = (x < limit) × Below limit xs

-- the numbers of a row fit in 32 bits each
abbrev pub Narrow : Row → Type 0
Narrow row = Below 4294967296 (cells row)
