-- How the code goes through the octets: by a run of plain octets, where one stands, else by a sign.
use Rattle.std.specs.Prelude.{ℕ, cond, List, [], ◌∷◌, ltb, length, drop}
use Rattle.characters.specs.declared.Sign.{Sign}
use Rattle.characters.specs.declared.Step.{Step}
use Rattle.characters.specs.Sets.{is_plain}
use Rattle.characters.specs.Signs.{octets_of, is_number, sign_at}

-- the plain octets that a list begins with
unfoldable pub plain_front : List ℕ → List ℕ
plain_front [] = []
plain_front (o ∷ os) = cond (is_plain o) (o ∷ plain_front os) []

abbrev pub step : ℕ → ℕ → ℕ → Step
step w l n = record { wide = w; length = l; numbers = n }

abbrev pub of_sign : Sign → Step
of_sign x = step x.wide (length (octets_of x.points)) (is_number x.points)

-- the step at a place, and its UTF-8
unfoldable pub step_at : ℕ → List ℕ → ℕ → Step
step_at s xs at =
    cond (ltb 0 (length (plain_front (drop at xs)))) (step (length (plain_front (drop at xs))) (length (plain_front (drop at xs))) 0)
    (of_sign (sign_at s xs at))

unfoldable pub step_text : ℕ → List ℕ → ℕ → List ℕ
step_text s xs at =
    cond (ltb 0 (length (plain_front (drop at xs)))) (plain_front (drop at xs)) (octets_of (sign_at s xs at).points)
