-- A step goes from a place of the octets to another: its UTF-8, and then that of the octets past it, is the UTF-8 of the octets from there on.
use Prim.Native.Nat.{ℕ, ◌+◌, ◌-◌, ◌/◌, ◌%◌, ◌≤◌, ◌<◌}
use native.Mathlib.Numerals.{add-one}
use native.Mathlib.Omega.{arith}
use mathlib.Core.Path.{◌≡◌, refl, sym, ap, subst, ◌∙◌}
use mathlib.Core.Bool.{Bool, true, false, cond}
use mathlib.Core.List.{List, [], ◌∷◌, ◌++◌}
use lib.Dec.{ltb}
use lib.ListN.{length, take, drop, get_or, length-append, length-drop, drop_of_length-le}
use lib.Seq.{drop-cons, drop-drop}
use borrow.Author.Tests.{lt-ltb, le-ltb, ltb-true, ltb-false}
use Rattle.characters.specs.declared.Points.{Points}
use Rattle.characters.specs.declared.Points.TheVariants.{One, Two, Number}
use Rattle.characters.specs.declared.Sign.{Sign}
use Rattle.characters.specs.declared.Step.{Step}
use Rattle.characters.specs.Utf8.{utf8}
use Rattle.characters.specs.Sets.{is_plain}
use Rattle.characters.specs.Signs.{hex_digit, octets_of, is_number, sign_at, signs, utf8_of, numbers_in}
use Rattle.characters.specs.Steps.{plain_front, step, of_sign, step_at, step_text}
use Rattle.characters.proofs.Utf8.{number-octets, bracket-long}
use Rattle.characters.proofs.Next.{reach, text-next, numbers-next}
use Rattle.characters.proofs.Plain.{front-text, front-numbers, front-short}

-- how the front goes on, octet by octet
module _ (xs : List ℕ) (at : ℕ) where
  module _ (h : at < length xs) where
    here : drop at xs ≡ get_or xs at 0 ∷ drop (at + 1) xs
    here = rw (add-one at) (drop-cons xs at 0 h)

    pub front-more : is_plain (get_or xs at 0) ≡ true → plain_front (drop at xs) ≡ get_or xs at 0 ∷ plain_front (drop (at + 1) xs)
    unfolding plain_front
    front-more e = ap plain_front here ∙ rw e

    pub front-stops : is_plain (get_or xs at 0) ≡ false → plain_front (drop at xs) ≡ []
    unfolding plain_front
    front-stops e = ap plain_front here ∙ rw e

  pub front_ends : length xs ≤ at → plain_front (drop at xs) ≡ []
  unfolding plain_front
  front_ends h = ap plain_front (drop_of_length-le xs h)

-- what is shown by its number takes more octets than it counts
few-numbers : (x : Points) → is_number x ≤ length (octets_of x)
few-numbers (One p) = omega arith
few-numbers (Two p q) = omega arith
few-numbers (Number o) =
    let rest : List ℕ = utf8 (hex_digit (o / 16)) ++ (utf8 (hex_digit (o % 16)) ++ utf8 0x27E7) in
    rw (number-octets o) (omega (arith, length-append (utf8 0x27E6) rest, bracket-long.0))

pub few-all : (xs : List Sign) → numbers_in xs ≤ length (utf8_of xs)
unfolding numbers_in utf8_of
few-all [] = omega arith
few-all (x ∷ xs) = omega (arith, few-numbers x.points, few-all xs, length-append (octets_of x.points) (utf8_of xs))

-- what is known of a step
pub record Goes (s : ℕ) (xs : List ℕ) (at : ℕ) (r : Step) : Type 0 where
  pub forward : 1 ≤ r.wide
  pub within : at + r.wide ≤ length xs
  pub text : utf8_of (signs s (drop at xs)) ≡ step_text s xs at ++ utf8_of (signs s (drop (at + r.wide) xs))
  pub long : length (step_text s xs at) ≡ r.length
  pub counted : numbers_in (signs s (drop at xs)) ≡ r.numbers + numbers_in (signs s (drop (at + r.wide) xs))
  pub few : r.numbers ≤ r.length

module _ (s : ℕ) (xs : List ℕ) (at : ℕ) (h : at < length xs) where
  abbrev front : List ℕ
  front = plain_front (drop at xs)

  abbrev Known : Step → List ℕ → Type 0
  Known r t =
      (1 ≤ r.wide) × (at + r.wide ≤ length xs)
      × (utf8_of (signs s (drop at xs)) ≡ t ++ utf8_of (signs s (drop (at + r.wide) xs)))
      × (length t ≡ r.length)
      × (numbers_in (signs s (drop at xs)) ≡ r.numbers + numbers_in (signs s (drop (at + r.wide) xs)))
      × (r.numbers ≤ r.length)

  by-run : 0 < length front → Known (step (length front) (length front) 0) front
  by-run some =
      let short : length front ≤ length (drop at xs) = front-short (drop at xs) in
      let rest : drop (length front) (drop at xs) ≡ drop (at + length front) xs = drop-drop (length front) at xs in (
        some,
        omega (arith, short, length-drop at xs),
        front-text s (drop at xs) ∙ ap (λ r. front ++ utf8_of (signs s r)) rest,
        refl,
        front-numbers s (drop at xs) ∙ ap (λ r. numbers_in (signs s r)) rest ∙ omega arith,
        omega arith,
      )

  by_sign : Known (of_sign (sign_at s xs at)) (octets_of (sign_at s xs at).points)
  by_sign =
      let it = sign_at s xs at in
      ((reach s xs at h it refl).0, (reach s xs at h it refl).1, text-next s xs at h it refl, refl, numbers-next s xs at h it refl, few-numbers it.points)

  known : Known (step_at s xs at) (step_text s xs at)
  unfolding step_at step_text
  known = go (ltb 0 (length front)) refl
    where
      go : (b : Bool) → ltb 0 (length front) ≡ b →
          Known (cond b (step (length front) (length front) 0) (of_sign (sign_at s xs at))) (cond b front (octets_of (sign_at s xs at).points))
      go true e = by-run (ltb-true 0 (length front) e)
      go false e = by_sign

  pub goes : (r : Step) → r ≡ step_at s xs at → Goes s xs at r
  goes r e =
      let k = known in
      subst (Goes s xs at) (sym e)
      (record { forward = k.0; within = k.1; text = k.2; long = k.3; counted = k.4; few = k.5 })

-- how much is left after a step
pub size-left :
    (s : ℕ) (xs : List ℕ) (at : ℕ) (r : Step) → Goes s xs at r →
    length (utf8_of (signs s (drop at xs))) ≡ r.length + length (utf8_of (signs s (drop (at + r.wide) xs)))
size-left s xs at r g =
    ap length g.text
    ∙ (length-append (step_text s xs at) (utf8_of (signs s (drop (at + r.wide) xs)))
    ∙ ap (λ n. n + length (utf8_of (signs s (drop (at + r.wide) xs)))) g.long)

-- what the code tells of a step, where a run ends at `end`
nothing : (l : List ℕ) → length l ≤ 0 → l ≡ []
nothing [] h = refl
nothing (x ∷ l) h = absurd (omega arith)

module _ (s : ℕ) (xs : List ℕ) (at end : ℕ) (e : end ≡ at + length (plain_front (drop at xs))) where
  abbrev run : List ℕ
  run = plain_front (drop at xs)

  pub run-within : length run ≤ length (step_text s xs at)
  unfolding step_text
  run-within = go (ltb 0 (length run)) refl
    where
      go : (b : Bool) → ltb 0 (length run) ≡ b → length run ≤ length (cond b run (octets_of (sign_at s xs at).points))
      go true t = omega arith
      go false t = omega (arith, ltb-false 0 (length run) t)

  module _ (h : at < end) where
    some : ltb 0 (length run) ≡ true
    some =
        let long : 0 < length run = omega arith in
        lt-ltb 0 (length run) long

    pub run_step : step (end - at) (end - at) 0 ≡ step_at s xs at
    unfolding step_at
    run_step =
        let long : end - at ≡ length run = omega arith in
        rw some (ap (λ n. step n n 0) long)

    pub run-text : step_text s xs at ≡ run
    unfolding step_text
    run-text = rw some

  module _ (h : end ≤ at) where
    short : length run ≤ 0
    short = omega arith

    pub no_run : run ≡ []
    no_run = nothing run short

    pub sign-step : of_sign (sign_at s xs at) ≡ step_at s xs at
    unfolding step_at
    sign-step = rw (le-ltb 0 (length run) short)

    pub sign_text : step_text s xs at ≡ octets_of (sign_at s xs at).points
    unfolding step_text
    sign_text = rw (le-ltb 0 (length run) short)

-- a run is copied: it is what stands there, and stored at a place it stands between what was before it and past it
front-first : (ys : List ℕ) → take (length (plain_front ys)) ys ≡ plain_front ys
unfolding plain_front
front-first [] = refl
front-first (o ∷ os) = go (is_plain o) (front-first os)
  where
    go : (b : Bool) → take (length (plain_front os)) os ≡ plain_front os → take (length (cond b (o ∷ plain_front os) [])) (o ∷ os) ≡ cond b (o ∷ plain_front os) []
    go true h = ap (λ r. o ∷ r) h
    go false h = refl

module _ (xs : List ℕ) (at end : ℕ) (e : end ≡ at + length (plain_front (drop at xs))) where
  pub run-copied : take (end - at) (drop at xs) ≡ plain_front (drop at xs)
  run-copied =
      let long : end - at ≡ length (plain_front (drop at xs)) = omega arith in
      rw long (front-first (drop at xs))

  pub run_ends : at ≤ length xs → end ≤ length xs
  run_ends h = omega (arith, front-short (drop at xs), length-drop at xs)
