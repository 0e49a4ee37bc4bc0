-- Spellings at the edges of the rules, and those that were got wrong before: one table with one statement.
use mathlib.Core.Path.{◌≡◌, refl}
use mathlib.Core.Bool.{Bool, true, false}
use mathlib.Core.List.{List, [], ◌∷◌, map}
use Prim.Native.Nat.{ℕ}
use lib.ListN.{replicate}
use Rattle.names.specs.Names.{is_digit, grouped, is_identifier, all_digits, is_portion, same}

-- bytes, whether they are an identifier, whether a portion number:
-- nothing, "0", "00", "1 0", "0 2", " 1", "1 ", "1  0", "1A", and 16, 17, 64 and 65 zeros
abbrev pub examples : List (List ℕ × Bool × Bool)
examples =
    ([], false, false)
    ∷ (48 ∷ [], true, true)
    ∷ (48 ∷ 48 ∷ [], true, true)
    ∷ (49 ∷ 32 ∷ 48 ∷ [], true, false)
    ∷ (48 ∷ 32 ∷ 50 ∷ [], true, false)
    ∷ (32 ∷ 49 ∷ [], false, false)
    ∷ (49 ∷ 32 ∷ [], false, false)
    ∷ (49 ∷ 32 ∷ 32 ∷ 48 ∷ [], false, false)
    ∷ (49 ∷ 65 ∷ [], false, false)
    ∷ (replicate 16 48, true, true)
    ∷ (replicate 17 48, true, false)
    ∷ (replicate 64 48, true, false)
    ∷ (replicate 65 48, false, false)
    ∷ []

pub as-listed : map (λ (e : List ℕ × Bool × Bool). (e.0, is_identifier e.0, is_portion e.0)) examples ≡ examples
unfolding is_digit grouped is_identifier all_digits is_portion
as-listed = refl

-- "0 and 00 differ", and "1 0" is not "1 0 2 0"
pub zeros_differ : same (48 ∷ []) (48 ∷ 48 ∷ []) ≡ false
unfolding same
zeros_differ = refl

pub prefix-differs : same (49 ∷ 32 ∷ 48 ∷ []) (49 ∷ 32 ∷ 48 ∷ 32 ∷ 50 ∷ 32 ∷ 48 ∷ []) ≡ false
unfolding same
prefix-differs = refl
