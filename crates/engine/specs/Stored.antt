-- What the stored state stands for, and what the three questions answer of it: their contracts. The ends of the open items lie in an array,
-- the outermost first, each twice and one more if the item waits for its closing mark.
use Rattle.std.specs.Prelude.{ℕ, zero, suc, ◌/◌, ◌%◌, ◌≡◌, Bool, true, false, cond, List, [], ◌∷◌, get_or, take, eqb, leb}
use Rattle.octets.specs.Walk.{stream_limit, deepest}
use Rattle.octets.specs.Told.{Told}
use Rattle.blocks.specs.Engine.{Open, Standing, reading, found, State}
use Rattle.blocks.specs.Blocks.{AfterBlock, start, take_block, close}
use Rattle.engine.specs.declared.Blocks.{Blocks}
use Rattle.engine.specs.declared.Taken.{Taken}

-- an open item, as its end is stored
abbrev pub open_of : ℕ → Open
open_of e = record { bound = e / 2; marked = eqb (e % 2) 1 }

-- the first n ends, the last of them innermost
abbrev pub opens_of : ℕ → List ℕ → List Open
opens_of zero ends = []
opens_of (suc n) ends = open_of (get_or ends n 0) ∷ opens_of n ends

-- where the engine stands: with a finding, or on the way to a header or in one
abbrev pub standing_of : Blocks → Standing
standing_of b =
    cond (eqb b.number 0)
    (reading b.headers (opens_of b.level b.ends) b.at (take b.have b.begun))
    (found b.number b.place b.headers)

-- what a stored state stands for
abbrev pub state_of : Blocks → State
state_of b = record { total = b.total; taken = b.taken; standing = standing_of b }

-- what the code needs of the numbers of a state without a finding: no more open items than there are ends, fewer octets of a header than
-- are kept, no more headers than octets, and a total that is not too long
abbrev pub readable : Blocks → Bool
readable b =
    cond (leb b.level deepest) (cond (leb b.have 7) (cond (leb b.headers b.taken) (leb b.total stream_limit) false) false) false

-- Whether the code can go on with a state: every state that an engine gave is so. A finding is one of 1 to 8. (1 is one too: "1 at the
-- start, for the total told" stays in the state, and the close tells it.)
abbrev pub sound : Blocks → Bool
sound b = cond (leb b.number 8) (cond (eqb b.number 0) (readable b) true) false

-- what is given for the total told: its number, and the state that stands for the one defined
pub record Starts (total : ℕ) (r : Taken) : Type 0 where
  pub number : r.number ≡ (start total).number
  pub state : state_of r.state ≡ (start total).state
  pub goes_on : sound r.state ≡ true

-- A block, as the engine takes it. A state that no engine gave is refused as a block past the total is.
abbrev pub taken_of : Blocks → List ℕ → AfterBlock
taken_of b block = cond (sound b) (take_block (state_of b) block) (record { number = 28; state = state_of b })

-- The close, as the engine's. A state that no engine gave is refused as closing early is.
abbrev pub closed_of : Blocks → Told
closed_of b = cond (sound b) (close (state_of b)) (record { number = 29; place = 0; headers = 0 })

-- what is given back for a block: with 28 the state as it was, number for number
pub record Takes (b : Blocks) (block : List ℕ) (r : Taken) : Type 0 where
  pub number : r.number ≡ (taken_of b block).number
  pub state : state_of r.state ≡ (taken_of b block).state
  pub unchanged : r.number ≡ 28 → r.state ≡ b
  pub goes_on : sound b ≡ true → sound r.state ≡ true

-- blocks handed over one after another: each call is handed the state that the one before gave back
pub data Calls : Blocks → List (List ℕ) → Blocks → Type 0 where
  none : {b : Blocks} → Calls b [] b
  call : {b last : Blocks} {block : List ℕ} {blocks : List (List ℕ)} {r : Taken} → Takes b block r → Calls r.state blocks last
      → Calls b (block ∷ blocks) last
