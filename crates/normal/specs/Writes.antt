-- What the writer answers, and what the output then holds. Document 01, numbers 17 and 18, and "Output past it stays".
use Rattle.std.specs.Prelude.{ℕ, ◌≡◌, cond, List, ◌++◌, leb, length, drop, Result, Ok, Err}
use Rattle.headers.specs.declared.Refusal.{Refusal}
use Rattle.octets.specs.Walk.{stream_limit}
use Rattle.normal.specs.Normal.{normal_form}

-- what the writer answers: how many octets it wrote, or a refusal
abbrev pub Answer : Type 0
Answer = Result ℕ Refusal

abbrev pub written : (length : ℕ) → Answer
written = Ok

abbrev pub refused : (number place : ℕ) → Answer
refused number place = Err (record { number = number; place = place })

-- 17 "normal form over 1,048,576 bytes", then 18 "output shorter than the normal form"
unfoldable pub answer_of : (form out : List ℕ) → Answer
answer_of form out =
    cond (leb (length form) stream_limit) (cond (leb (length form) (length out)) (written (length form)) (refused 18 0)) (refused 17 0)

-- "Output past it stays"; "A refusal leaves the lent .. output untouched"
abbrev pub output_of : Answer → (form out : List ℕ) → List ℕ
output_of (Ok n) form out = form ++ drop (length form) out
output_of (Err refusal) form out = out

-- The answer is the expected one, and the output holds what goes with it: nothing else is left open.
pub record GivesAnswer (expected : Answer) (form before : List ℕ) (answer : Answer) (after : List ℕ) : Type 0 where
  pub answered : answer ≡ expected
  pub output : after ≡ output_of expected form before

-- the mailroom's: 18 "output shorter than the normal form", and nothing else
unfoldable pub answer_short : (form out : List ℕ) → Answer
answer_short form out = cond (leb (length form) (length out)) (written (length form)) (refused 18 0)

-- the contract of the mailroom's writer: its answer, and the output at exit
abbrev pub ShortWrites : (s before : List ℕ) → Answer → (after : List ℕ) → Type 0
ShortWrites s before answer after = GivesAnswer (answer_short (normal_form s) before) (normal_form s) before answer after
