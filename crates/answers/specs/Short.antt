-- The mailroom's own normal form question (W-212): "limited to 65,535 bytes of input", and with no 17, which "can't arise" there. That it gives
-- what the normal form question gives, but for 1, is in crate promises (`Mailroom`).
use Rattle.std.specs.Prelude.{◌≡◌, ℕ, cond, List, eqb, ltb, length}
use Rattle.normal.specs.Normal.{normal_form}
use Rattle.normal.specs.Short.{short_limit}
use Rattle.elements.specs.declared.Edition.{Edition}
use Rattle.letters.specs.Letter.{Letter, letter, refusal, letter_in}
use Rattle.answers.specs.declared.Written.{Written}
use Rattle.answers.specs.Answers.{onto}

-- "1 in the new question means over 65,535"; the rules 2 to 15 are as ever
abbrev pub short_letter : Edition → List ℕ → Letter
short_letter edition s = cond (ltb short_limit (length s)) (refusal 1 0 0) (letter_in edition s)

-- 18 "output shorter than the normal form"
abbrev pub short_by : Letter → (form out : List ℕ) → Written
short_by (refusal number place headers) form out = record { number = number; place = place; length = 0 }
short_by (letter headers elements) form out =
    cond (ltb (length out) (length form)) (record { number = 18; place = 0; length = 0 })
    (record { number = 0; place = 0; length = length form })

unfoldable pub written_short : Edition → (s out : List ℕ) → Written
written_short edition s out = short_by (short_letter edition s) (normal_form s) out

-- "A refusal leaves the lent .. output untouched"
unfoldable pub written_short_output : Edition → (s out : List ℕ) → List ℕ
written_short_output edition s out = cond (eqb (written_short edition s out).number 0) (onto (normal_form s) out) out

-- the contract of the question: its answer, and the output at exit
pub record ShortOutcome (edition : Edition) (s out : List ℕ) (answer : Written) (out_after : List ℕ) : Type 0 where
  pub answered : answer ≡ written_short edition s out
  pub put : out_after ≡ written_short_output edition s out
