-- What the question answers: the text at the front of the output and the octets past it as they were, or 18 and the output as it was.
use Rattle.std.specs.Prelude.{ℕ, ◌≡◌, Bool, cond, List, ◌++◌, leb, length, drop, Option, Some, None}
use Rattle.characters.specs.declared.Sign.{Sign}
use Rattle.characters.specs.declared.Size.{Size}
use Rattle.characters.specs.declared.Shown.{Shown}
use Rattle.characters.specs.Signs.{utf8_of, numbers_in, text_of, numbers_of}

-- the answer counts octets in 32 bits: no more of an output is used
abbrev pub most : ℕ
most = 0xFFFFFFFF

abbrev pub room_of : ℕ → ℕ
room_of long = cond (leb long most) long most

abbrev pub size : ℕ → ℕ → Size
size l n = record { length = l; numbers = n }

-- what signs take, where there is room
abbrev pub measured : List Sign → ℕ → Option Size
measured xs room = cond (leb (length (utf8_of xs)) room) (Some (size (length (utf8_of xs)) (numbers_in xs))) None

abbrev pub shown : ℕ → ℕ → ℕ → Shown
shown number l n = record { number = number; place = 0; length = l; numbers = n }

-- 18 "output is shorter"
abbrev pub fits_in : ℕ → List ℕ → List ℕ → Bool
fits_in set xs out = leb (length (text_of set xs)) (room_of (length out))

unfoldable pub shown_as : ℕ → (xs out : List ℕ) → Shown
shown_as set xs out = cond (fits_in set xs out) (shown 0 (length (text_of set xs)) (numbers_of set xs)) (shown 18 0 0)

unfoldable pub shown_output : ℕ → (xs out : List ℕ) → List ℕ
shown_output set xs out = cond (fits_in set xs out) (text_of set xs ++ drop (length (text_of set xs)) out) out

-- the contract of the question: its answer, and the output at exit
pub record ShownOutcome (set : ℕ) (octets out : List ℕ) (answer : Shown) (out_after : List ℕ) : Type 0 where
  pub answered : answer ≡ shown_as set octets out
  pub put : out_after ≡ shown_output set octets out
