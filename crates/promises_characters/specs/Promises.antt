-- What is promised of the characters of a text: for who shows it. `shown-text` (proofs/Promises) is a value of the record `Characters` below.
use Rattle.std.specs.Prelude.{ℕ, ◌+◌, ◌*◌, ◌≤◌, ◌<◌, ◌≡◌, Bool, true, ◌||◌, ◌&&◌, ◌⊎◌, List, [], ◌∷◌, ◌++◌, leb, ltb, length, drop, replicate}
use Rattle.characters.specs.declared.Sign.{Sign}
use Rattle.characters.specs.declared.Shown.{Shown}
use Rattle.characters.specs.Utf8.{utf8s}
use Rattle.characters.specs.Sets.{set_of, is_own, t61}
use Rattle.characters.specs.Signs.{octets_of, first_sign, signs, utf8_of, text_of, numbers_of}
use Rattle.characters.specs.Answers.{most, room_of, shown_as, shown_output, ShownOutcome}

-- numbers that are octets
abbrev pub Octets : List ℕ → Type 0
Octets [] = Unit {0}
Octets (o ∷ os) = (o < 256) × Octets os

-- a Unicode scalar value (RFC 3629: "the surrogates" D800 to DFFF are none): these are what UTF-8 may stand for
abbrev pub is_scalar : ℕ → Bool
is_scalar p = ltb p 0xD800 || (leb 0xE000 p && ltb p 0x110000)

abbrev pub Scalars : List ℕ → Type 0
Scalars [] = Unit {0}
Scalars (p ∷ ps) = (is_scalar p ≡ true) × Scalars ps

-- octets that are the UTF-8 of scalar values
pub record ValidUtf8 (os : List ℕ) : Type 0 where
  pub values : List ℕ
  pub scalars : Scalars values
  pub coded : os ≡ utf8s values

-- the octets of ASCII that are shown as they are: printing ones, TAB, LF, FF
abbrev pub Ascii : List ℕ → Type 0
Ascii [] = Unit {0}
Ascii (o ∷ os) = (is_own o ≡ true) × Ascii os

-- how many octets signs have: so the place of a sign in the octets is that of those before it, and its place in the text is how long theirs is
unfoldable pub widths : List Sign → ℕ
widths [] = 0
widths (x ∷ xs) = x.wide + widths xs

-- a sign of a list, at its place in the octets and at its place in the text
pub record Placed (s : ℕ) (xs : List ℕ) (before : List Sign) (x : Sign) (after : List Sign) : Type 0 where
  -- in the octets it stands past those of the signs before it, and the signs after it are those of the octets past it
  pub there : signs s (drop (widths before) xs) ≡ x ∷ after
  pub inside : widths before + x.wide ≤ length xs
  -- in the text its UTF-8 stands past theirs
  pub shown : drop (length (utf8_of before)) (utf8_of (signs s xs)) ≡ octets_of x.points ++ utf8_of after

-- the sign that has the octet at a place
pub record Holds (s : ℕ) (xs : List ℕ) (at : ℕ) : Type 0 where
  pub before : List Sign
  pub sign : Sign
  pub after : List Sign
  pub all : signs s xs ≡ before ++ (sign ∷ after)
  pub from : widths before ≤ at
  pub past : at < widths before + sign.wide

pub record Characters : Type 0 where
  -- the answer is 0 or 18, at place 0
  pub told : (set : ℕ) (xs out : List ℕ) → (((shown_as set xs out).number ≡ 0) ⊎ ((shown_as set xs out).number ≡ 18)) × ((shown_as set xs out).place ≡ 0)
  -- 0: the output begins with the text, as long as the answer says, and past it is as it was; so many octets are shown by their number
  pub written : (set : ℕ) (xs out : List ℕ) → (shown_as set xs out).number ≡ 0 → shown_output set xs out ≡ text_of set xs ++ drop (length (text_of set xs)) out
  pub long : (set : ℕ) (xs out : List ℕ) → (shown_as set xs out).number ≡ 0 → (shown_as set xs out).length ≡ length (text_of set xs)
  pub counted : (set : ℕ) (xs out : List ℕ) → (shown_as set xs out).number ≡ 0 → (shown_as set xs out).numbers ≡ numbers_of set xs
  -- 18 exactly where the output, or what 32 bits can count, is shorter than the text; the output is as it was
  pub short : (set : ℕ) (xs out : List ℕ) → (shown_as set xs out).number ≡ 18 → room_of (length out) < length (text_of set xs)
  pub too_short : (set : ℕ) (xs out : List ℕ) → room_of (length out) < length (text_of set xs) → (shown_as set xs out).number ≡ 18
  pub untouched : (set : ℕ) (xs out : List ℕ) → (shown_as set xs out).number ≡ 18 → shown_output set xs out ≡ out
  -- the text is valid UTF-8 (RFC 3629)
  pub valid : (set : ℕ) (xs : List ℕ) → Octets xs → ValidUtf8 (text_of set xs)
  -- every octet is in one sign, in order
  pub every_octet : (s : ℕ) (xs : List ℕ) → widths (signs s xs) ≡ length xs
  pub holds : (s : ℕ) (xs : List ℕ) (at : ℕ) → at < length xs → Holds s xs at
  -- the map of places: a sign is at one place of the octets, and shown at one place of the text
  pub placed : (s : ℕ) (xs : List ℕ) (before : List Sign) (x : Sign) (after : List Sign) → signs s xs ≡ before ++ (x ∷ after) → Placed s xs before x after
  -- a text may be cut between two octets that are not one sign, and shown in parts
  pub cut : (set : ℕ) (xs : List ℕ) (a b : ℕ) (ys : List ℕ) → (first_sign (set_of set) a b).wide ≡ 1
      → text_of set (xs ++ (a ∷ b ∷ ys)) ≡ text_of set (xs ++ (a ∷ [])) ++ text_of set (b ∷ ys)
  -- two octets are one sign where fewer of them are shown by their number together than alone
  pub together : (set a b : ℕ) → a < 256 → (first_sign (set_of set) a b).wide ≡ 2
      → numbers_of set (a ∷ b ∷ []) < numbers_of set (a ∷ []) + numbers_of set (b ∷ [])
  pub apart : (set a b : ℕ) → (first_sign (set_of set) a b).wide ≡ 1 → numbers_of set (a ∷ b ∷ []) ≡ numbers_of set (a ∷ []) + numbers_of set (b ∷ [])
  -- ASCII is itself, in all sets but T.61, where 24 is another sign
  pub itself : (set : ℕ) (xs : List ℕ) → (set ≡ t61 → ⊥) → Ascii xs → text_of set xs ≡ xs
  -- eight octets for each octet are enough, and controls take them all
  pub enough : (set : ℕ) (xs : List ℕ) → Octets xs → length (text_of set xs) ≤ 8 * length xs
  pub never_short : (set : ℕ) (xs out : List ℕ) → Octets xs → 8 * length xs ≤ length out → 8 * length xs ≤ most → (shown_as set xs out).number ≡ 0
  pub reached : (set n : ℕ) → length (text_of set (replicate n 0)) ≡ 8 * n
  -- two outcomes of the contract are equal
  pub determined : {set : ℕ} {xs out out_a out_b : List ℕ} {a b : Shown} → ShownOutcome set xs out a out_a → ShownOutcome set xs out b out_b
      → (a ≡ b) × (out_a ≡ out_b)
