-- A number in decimal, as ASCII.
-- The definition is given more turns than it takes, and nothing after this file looks at how many: the equations to read it by are
-- `decimal-small` and `decimal-large` (proofs/Decimal), and that it is right is `reads-back` and `no-zero-in-front`.
use Rattle.std.specs.Prelude.{ℕ, zero, suc, ◌+◌, ◌-◌, ◌*◌, ◌/◌, ◌%◌, Bool, true, false, List, [], ◌∷◌, ◌++◌, ltb}

-- the digit of a number below 10
abbrev pub digit : ℕ → ℕ
digit n = 48 + n

-- a number below 10 is its digit; any other is its tenth and then its last digit
abbrev pub turn : Bool → ℕ → (ℕ → List ℕ) → List ℕ
turn true n tenth = digit n ∷ []
turn false n tenth = tenth (n / 10) ++ (digit (n % 10) ∷ [])

-- a number's digits, in no more than so many turns
unfoldable pub decimal_in : ℕ → ℕ → List ℕ
decimal_in zero n = []
decimal_in (suc turns) n = turn (ltb n 10) n (λ m. decimal_in turns m)

-- the digits of a number, 0 among them, with no zero in front of any other
unfoldable pub decimal : ℕ → List ℕ
decimal n = decimal_in (suc n) n

-- the number that digits spell, after those of a number
unfoldable pub number_spelt : ℕ → List ℕ → ℕ
number_spelt n [] = n
number_spelt n (d ∷ ds) = number_spelt (n * 10 + (d - 48)) ds
