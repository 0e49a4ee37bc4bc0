-- What `start`, `feed` and `finish` promise together: a text that is fed in any cutting is answered as the whole text reads.
use Rattle.std.specs.Prelude.{◌≡◌, ℕ, length, take, drop}
use mathlib.Core.List.{List, [], ◌∷◌, flatten}
use Rattle.lister_hex.specs.Lines.{input_limit, TextMeaning, stream, reads}
use Rattle.lister_hex.specs.Blocks.{Standing, standing, started, fed, finished, read_as}

-- all blocks, one after another
unfoldable pub fed_all : Standing → List (List ℕ) → Standing
fed_all t [] = t
fed_all t (block ∷ blocks) = fed_all (fed t block) blocks

-- where reading ended, over a lent array, answers an outcome: `finish` tells it, `part` hands a stream back, and the array's other bytes stay
pub record Answers (outcome : TextMeaning) (lent : List ℕ) (end : Standing) : Type 0 where
  pub answer : finished end.state ≡ read_as outcome
  pub part : (s : List ℕ) → outcome ≡ stream s → take (length s) end.out ≡ s
  pub past : (s : List ℕ) → outcome ≡ stream s → drop (length s) end.out ≡ drop (length s) lent

-- whatever the blocks are: what they make, joined, is read
abbrev pub AnyCutting : Type 0
AnyCutting =
    (blocks : List (List ℕ)) (lent : List ℕ) →
    length lent ≡ input_limit →
    Answers (reads (flatten blocks)) lent (fed_all (standing started lent) blocks)
