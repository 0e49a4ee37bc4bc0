-- Feeding is a fold: the next byte goes first, two blocks are their join, and once stopped it stays so.
use Prim.Native.Nat.{ℕ, ◌+◌, ◌≤◌, ◌<◌}
use native.Mathlib.Numerals.{add-one}
use mathlib.Core.Path.{◌≡◌, refl, ◌∙◌}
use mathlib.Core.List.{List, [], ◌∷◌, ◌++◌, flatten}
use lib.ListN.{length, drop, get_or, drop_of_length-le}
use lib.Seq.{drop-cons}
use Rattle.lister_hex.specs.declared.State.TheVariants.{Stopped}
use Rattle.lister_hex.specs.Blocks.{Standing, standing, on_byte, fed}
use Rattle.lister_hex.specs.Promise.{fed_all}

-- from a byte of a block on
pub fed-next : (t : Standing) (block : List ℕ) (i : ℕ) → i < length block
    → fed t (drop i block) ≡ fed (on_byte t.state t.out (get_or block i 0)) (drop (i + 1) block)
unfolding fed
fed-next t block i h = rw (add-one, drop-cons block i 0)

-- from a block's end on there is nothing
pub fed-end : (t : Standing) (block : List ℕ) (i : ℕ) → length block ≤ i → fed t (drop i block) ≡ t
unfolding fed
fed-end t block i h = rw (drop_of_length-le block h)

-- two blocks, one after the other, are their join
pub fed-join : (t : Standing) (xs ys : List ℕ) → fed (fed t xs) ys ≡ fed t (xs ++ ys)
unfolding fed
fed-join t [] ys = refl
fed-join t (x ∷ xs) ys = fed-join (on_byte t.state t.out x) xs ys

-- and so are any number of blocks
pub fed-flatten : (blocks : List (List ℕ)) (t : Standing) → fed_all t blocks ≡ fed t (flatten blocks)
unfolding fed fed_all flatten
fed-flatten [] t = refl
fed-flatten (block ∷ blocks) t = fed-flatten blocks (fed t block) ∙ fed-join t block (flatten blocks)

-- nothing is read any more
pub fed-stopped : (block : List ℕ) (line : ℕ) (out : List ℕ) → fed (standing (Stopped line) out) block ≡ standing (Stopped line) out
unfolding fed on_byte
fed-stopped [] line out = refl
fed-stopped (b ∷ bs) line out = fed-stopped bs line out
