-- The block engine's three questions: start, take a block, close (W-209).
use Rattle.std.specs.Prelude.{ℕ, ◌+◌, ◌-◌, cond, List, [], ◌∷◌, ◌++◌, length, eqb, leb}
use Rattle.octets.specs.Walk.{stream_limit, walk_of}
use Rattle.octets.specs.Told.{Told, told}
use Rattle.blocks.specs.Engine.{Standing, reading, found, State, feed, fresh}

-- a number and a state: what the start gives, and what taking a block gives
pub record AfterBlock : Type 0 where
  pub number : ℕ
  pub state : State

-- "1 at the start, for the total told"; the state has that finding, so blocks are counted and the close tells it
unfoldable pub start : (total : ℕ) → AfterBlock
start total = record { number = cond (leb total stream_limit) 0 1; state = fresh total }

-- "28 a block past the total, state unchanged"
unfoldable pub take_block : State → List ℕ → AfterBlock
take_block s block =
    cond (leb (s.taken + length block) s.total)
    (record { number = 0; state = feed s block })
    (record { number = 28; state = s })

-- the number, place and header count of where the engine stands
abbrev pub told_of : Standing → Told
told_of (reading headers opens at begun) = record { number = 0; place = 0; headers = headers }
told_of (found number place headers) = record { number = number; place = place; headers = headers }

-- "29 closing early, state unchanged": the answer has no state, so a caller goes on with the one it has
unfoldable pub close : State → Told
close s = cond (eqb s.taken s.total) (told_of s.standing) (record { number = 29; place = 0; headers = 0 })

-- one block after another
abbrev pub take_blocks : State → List (List ℕ) → State
take_blocks s [] = s
take_blocks s (block ∷ blocks) = take_blocks (take_block s block).state blocks

-- the octets of the blocks that are not refused, where so many are left to come
abbrev pub kept : (left : ℕ) → List (List ℕ) → List ℕ
kept left [] = []
kept left (block ∷ blocks) = cond (leb (length block) left) (block ++ kept (left - length block) blocks) (kept left blocks)

-- What the close tells, after these octets of a letter of so many: what the walk of them tells, or 29 if they are not all.
abbrev pub at_close : (total : ℕ) → (octets : List ℕ) → Told
at_close total octets = cond (eqb (length octets) total) (told (walk_of octets)) (record { number = 29; place = 0; headers = 0 })
