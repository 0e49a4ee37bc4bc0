-- What is made of what was read, and what is printed of it. No contract can say which bytes the system puts into a block: `TakesIn` says that of
-- each block exactly the bytes that `read` tells of are read on, `Heard` that reading stands where some text leads, and `Prints` that what is then
-- printed is that text's output. Of a reader whose bytes are known `PrintsKnown` and `Writes` say that it is the output of all of them.
use Rattle.std.specs.Prelude.{◌≡◌, Bool, true, false, cond, ◌||◌, List, ◌++◌, ℕ, min, length, take, eqb, Result, Ok, Err, Some, None, IfSome, ⊤}
use Rattle.std.specs.Io.KnownBytes.{Appends, Keeps}
use Rattle.std.specs.declared.option.Option.{Option}
use Rattle.lister_text.specs.Lines.{unreadable}
use Rattle.lister_hex.specs.declared.State.{State}
use Rattle.lister_hex.specs.declared.State.TheVariants.{Pairs, Half, Stopped}
use Rattle.lister_hex.specs.Lines.{input_limit}
use Rattle.lister_hex.specs.Blocks.{Read, standing, started, fed, finished}
use Rattle.hexlister.specs.declared.Turn.{Turn}
use Rattle.hexlister.specs.declared.Turn.TheVariants.{More, Over, Broken}
use Rattle.hexlister.specs.Output.{stream_lines, output}

-- a text leads to a state, over the array that was lent and what it holds then
abbrev pub Leads : (text lent : List ℕ) → State → (octets : List ℕ) → Type 0
Leads text lent state octets = standing state octets ≡ fed (standing started lent) text

-- whether a line could not be read
abbrev pub is_stopped : State → Bool
is_stopped (Pairs count line) = false
is_stopped (Half count line first) = false
is_stopped (Stopped line) = true

-- whether reading is over after a block of n bytes: none came, or a line could not be read
abbrev pub over : ℕ → State → Bool
over n state = eqb n 0 || is_stopped state

-- how many bytes `read` gave: none where it failed
abbrev pub given : {E : Type 0} → Result ℕ E → List ℕ → ℕ
given (Ok n) block = min n (length block)
given (Err e) block = 0

-- the state that a turn hands on
abbrev pub state_after : State → Turn → State
state_after state (More next) = next
state_after state (Over next) = next
state_after state Broken = state

-- whether reading goes on, is over or failed, by what `read` answered
abbrev pub turn_of : {E : Type 0} → Result ℕ E → ℕ → State → Turn
turn_of (Ok count) n next = cond (over n next) (Over next) (More next)
turn_of (Err e) n next = Broken

-- what is made of an answer of `read` and of the block then: reading stands where exactly the bytes that `read` gave lead on from where it stood
pub record TakesIn {E : Type 0} (state : State) (octets : List ℕ) (got : Result ℕ E) (block : List ℕ) (turn : Turn) (after : List ℕ) : Type 0 where
  pub leads : standing (state_after state turn) after ≡ fed (standing state octets) (take (given got block) block)
  pub told : turn ≡ turn_of got (given got block) (state_after state turn)

-- what was read
pub record Heard (lent : List ℕ) (state : State) (octets : List ℕ) : Type 0 where
  pub text : List ℕ
  pub leads : Leads text lent state octets

-- where reading ended, if it did not fail
abbrev pub HeardIn : (lent : List ℕ) → Option State → (octets : List ℕ) → Type 0
HeardIn lent (Some state) octets = Heard lent state octets
HeardIn lent None octets = Unit {0}

-- what is printed where reading ended: of the stream at the array's front, or of the line that cannot be read
abbrev pub read_lines : Read → (octets : List ℕ) → List ℕ
read_lines (Ok count) octets = stream_lines (take count octets)
read_lines (Err line) octets = unreadable line

-- it is the output of the text that leads there
abbrev pub Prints : Type 0
Prints =
    (text lent : List ℕ) (state : State) (octets : List ℕ) →
    length lent ≡ input_limit →
    Leads text lent state octets →
    read_lines (finished state) octets ≡ output text

-- and once a line cannot be read, the output of all that may follow
abbrev pub PrintsAll : Type 0
PrintsAll =
    (text more lent : List ℕ) (line : ℕ) (octets : List ℕ) →
    length lent ≡ input_limit →
    Leads text lent (Stopped line) octets →
    output (text ++ more) ≡ output text

-- and where the bytes that a reader has left are known, what is printed is the output of all of them
abbrev pub PrintsKnown : Option (List ℕ) → Option State → (octets : List ℕ) → Type 0
PrintsKnown known (Some state) octets = IfSome known (λ text. read_lines (finished state) octets ≡ output text)
PrintsKnown known None octets = ⊤

-- what a writer then holds more, where its bytes are known as well: that output, and where reading failed nothing
abbrev pub Writes : (heard : Bool) → (known before after : Option (List ℕ)) → Type 0
Writes true known before after = IfSome known (λ text. Appends before after (output text))
Writes false known before after = Keeps before after
