-- Lines read in blocks: where it stands after the bytes so far, and the lent array then.
-- `Promise` says that this is what the whole text reads as, wherever it is cut.
use Rattle.std.specs.Prelude.{ℕ, ◌+◌, min, cond, ◌&&◌, List, [], ◌∷◌, length, set, ltb, eqb, Result, Ok, Err}
use Rattle.lister_hex.specs.declared.State.{State}
use Rattle.lister_hex.specs.declared.State.TheVariants.{Pairs, Half, Stopped}
use Rattle.lister_text.specs.Ascii.{newline}
use Rattle.lister_hex.specs.Lines.{input_limit, is_hex_digit, octet, TextMeaning, stream, unreadable}

-- the largest number that is told of a line: a later line bears it too
abbrev pub last_line : ℕ
last_line = 18446744073709551615

-- where reading stands: the state, and the lent array with the octets so far at its front
pub record Standing : Type 0 where
  pub state : State
  pub out : List ℕ

-- a state, over what the array then holds
abbrev pub standing : State → List ℕ → Standing
standing s o = record { state = s; out = o }

-- before the first byte
abbrev pub started : State
started = Pairs 0 1

-- the first byte of a pair, or the newline that ends a line of whole pairs
abbrev pub first : ℕ → ℕ → ℕ → State
first n line b = cond (eqb b newline) (Pairs n (min (line + 1) last_line)) (Half n line b)

-- the second byte of a pair: two digits make an octet, if there is room for it, and all else makes the line unreadable
abbrev pub second : ℕ → ℕ → ℕ → List ℕ → ℕ → Standing
second n line a out b =
    cond (is_hex_digit a && is_hex_digit b && ltb n input_limit)
    (standing (Pairs (n + 1) line) (set out n (octet a b)))
    (standing (Stopped line) out)

-- one byte more
unfoldable pub on_byte : State → List ℕ → ℕ → Standing
on_byte (Pairs n line) out b = standing (first n line b) out
on_byte (Half n line a) out b = second n line a out b
on_byte (Stopped line) out b = standing (Stopped line) out

-- a block more
unfoldable pub fed : Standing → List ℕ → Standing
fed t [] = t
fed t (b ∷ bs) = fed (on_byte t.state t.out b) bs

-- what a text reads as: the length of its stream, which stands at the front of the lent array, or the first line that cannot be read
abbrev pub Read : Type 0
Read = Result ℕ ℕ

-- the answer where the text ends: half a pair makes its line unreadable
abbrev pub finished : State → Read
finished (Pairs n line) = Ok n
finished (Half n line a) = Err line
finished (Stopped line) = Err line

-- an outcome as it is told: a stream by its length, a line by its number
abbrev pub read_as : TextMeaning → Read
read_as (stream octets) = Ok (length octets)
read_as (unreadable line) = Err (min line last_line)
