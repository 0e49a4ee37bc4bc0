-- How a walk ended, past a run or with a refusal, with how many items passed; and the numbers that go with it, for the examples and for
-- letters in blocks (W-209).
use Rattle.std.specs.Prelude.{ℕ, Result, Ok, Err}
use Rattle.octets.specs.declared.Ended.{Ended}
use Rattle.octets.specs.declared.Refused.{Refused}

abbrev pub Outcome : Type 0
Outcome = Result Ended Refused

abbrev pub ended : (at count : ℕ) → Outcome
ended at count = Ok (record { at = at; count = count })

abbrev pub refused : (number place count : ℕ) → Outcome
refused number place count = Err (record { number = number; place = place; count = count })

-- the number, place and header count that document 01 gives an outcome: 0 at 0 is accepted
pub record Told : Type 0 where
  pub number : ℕ
  pub place : ℕ
  pub headers : ℕ

abbrev pub told : Outcome → Told
told (Ok e) = record { number = 0; place = 0; headers = e.count }
told (Err r) = record { number = r.number; place = r.place; headers = r.count }
