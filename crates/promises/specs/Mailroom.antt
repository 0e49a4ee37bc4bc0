-- The mailroom's own normal form question (W-212): what is promised of it. `mailroom` (proofs/Mailroom) is a value of the record below. That a
-- stream has octets, and no greater numbers, is asked where lengths are compared; every slice of octets has.
use Rattle.std.specs.Prelude.{◌≡◌, ◌↔◌, List, [], ◌∷◌, ℕ, ◌<◌, ◌≤◌, length}
use Rattle.normal.specs.Normal.{Octets, normal_form}
use Rattle.normal.specs.Short.{short_limit}
use Rattle.elements.specs.declared.Edition.{Edition}
use Rattle.letters.specs.Letter.{refusal, letter_in}
use Rattle.answers.specs.Answers.{written, written_output}
use Rattle.answers.specs.Short.{written_short, written_short_output}
use Rattle.promises.specs.Demands.{Answered, IsAccepted}

pub record Mailroom (edition : Edition) : Type 0 where
  -- what it may give: 1 to 15 and 18, and no 17; "1 in the new question means over 65,535"
  pub told : (s out : List ℕ) → Answered s (18 ∷ []) (written_short edition s out).number (written_short edition s out).place
  pub too_long : (s out : List ℕ) → ((written_short edition s out).number ≡ 1) ↔ (short_limit < length s)
  -- a refusal gives length 0 and leaves the output as it was
  pub counts : (s out : List ℕ) → ((written_short edition s out).number ≡ 0 → ⊥) → (written_short edition s out).length ≡ 0
  pub untouched : (s out : List ℕ) → ((written_short edition s out).number ≡ 0 → ⊥) → written_short_output edition s out ≡ out
  -- what rules 1 to 15 refuse is refused by that number at that place
  pub refused_alike : (s out : List ℕ) (number place headers : ℕ) → length s ≤ short_limit → letter_in edition s ≡ refusal number place headers
      → written_short edition s out ≡ record { number = number; place = place; length = 0 }
  -- "there the normal form is never longer than its input"
  pub never_longer : (s : List ℕ) → IsAccepted edition s → Octets s → length s ≤ short_limit → length (normal_form s) ≤ length s
  -- "so 17 can't arise": the normal form question answers the same, and leaves the same in the output
  pub same : (s out : List ℕ) → Octets s → length s ≤ short_limit
      → (written_short edition s out ≡ written edition s out) × (written_short_output edition s out ≡ written_output edition s out)
  -- "and an output as long as the input never meets 18"
  pub room_enough : (s out : List ℕ) → Octets s → length s ≤ length out → (written_short edition s out).number ≡ 18 → ⊥
