-- ASCII is shown as it is, but for T.61's currency sign: so is each plain octet in every set, and a run of them.
use Prim.Native.Nat.{ℕ, ◌≤◌, ◌<◌}
use native.Mathlib.Omega.{arith}
use mathlib.Core.Path.{◌≡◌, refl, ap, ◌∙◌}
use mathlib.Core.Bool.{Bool, true, false, cond, not, ◌&&◌, ◌||◌, false≢true}
use mathlib.Core.Logic.{◌⊎◌, inl, inr}
use mathlib.Core.List.{List, [], ◌∷◌, ◌++◌}
use lib.Dec.{leb, eqb}
use lib.ListN.{length, drop}
use borrow.Author.Tests.{lt-leb, leb-true, ne_eqb, eqb-true}
use Rattle.characters.specs.declared.Points.TheVariants.{One}
use Rattle.characters.specs.Sets.{left_point, point_of, is_own, is_plain, is_currency, t61, latin1, dollar}
use Rattle.characters.specs.Pairs.{composed, pair_of}
use Rattle.characters.specs.Signs.{octets_of, alone, first_sign, sign, signs, utf8_of, numbers_in}
use Rattle.characters.specs.Steps.{plain_front}
use Rattle.characters.proofs.Utf8.{is-point, utf8-one}
use Rattle.characters.proofs.Rules.{no-accent-below}

-- an octet that is its own character: where it lies
abbrev Lies : ℕ → Type 0
Lies o = (0 < o) × (o < 0x80) × (o ≡ 0x0D → ⊥)

either : (p q : Bool) → (p || q) ≡ true → (p ≡ true) ⊎ (q ≡ true)
either true q t = inl refl
either false q t = inr t

both : (p q : Bool) → (p && q) ≡ true → (p ≡ true) × (q ≡ true)
both true q t = (refl, t)
both false q t = absurd (false≢true t)

lies_at : (o n : ℕ) → 0 < n → n < 0x0D → eqb o n ≡ true → Lies o
lies_at o n l h t =
    let e : o ≡ n = eqb-true o n t in
    (omega arith, omega arith, λ z. omega arith)

lies : (o : ℕ) → is_own o ≡ true → Lies o
lies o t = go (leb 0x20 o) refl t
  where
    last : (eqb o 0x09 ≡ true) ⊎ (eqb o 0x0C ≡ true) → Lies o
    last (inl u) = lies_at o 0x09 (omega arith) (omega arith) u
    last (inr u) = lies_at o 0x0C (omega arith) (omega arith) u

    control : (eqb o 0x0A ≡ true) ⊎ ((eqb o 0x09 || eqb o 0x0C) ≡ true) → Lies o
    control (inl u) = lies_at o 0x0A (omega arith) (omega arith) u
    control (inr u) = last (either (eqb o 0x09) (eqb o 0x0C) u)

    go : (b : Bool) → leb 0x20 o ≡ b → cond b (leb o 0x7E) (eqb o 0x0A || (eqb o 0x09 || eqb o 0x0C)) ≡ true → Lies o
    go true e u =
        let l : 0x20 ≤ o = leb-true 0x20 o e in
        let h : o ≤ 0x7E = leb-true o 0x7E u in
        (omega arith, omega arith, λ z. omega arith)
    go false e u = control (either (eqb o 0x0A) (eqb o 0x09 || eqb o 0x0C) u)

module _ (s o : ℕ) (own : is_own o ≡ true) (other : is_currency s o ≡ false) where
  point-own : point_of s o ≡ o
  unfolding point_of left_point
  point-own =
      let low : o < 0xA0 = omega (arith, (lies o own).1) in
      rw (lt-leb 0xA0 o low, other, own)

  alone-own : alone s o ≡ One o
  unfolding alone
  alone-own =
      let some : (o ≡ 0 → ⊥) = λ e. omega (arith, (lies o own).0) in
      rw (point-own, ne_eqb o 0 some)

  octets-own : octets_of (alone s o) ≡ o ∷ []
  octets-own = is-point (alone s o) o alone-own ∙ utf8-one o (lies o own).1

  no-pair : (b : ℕ) → pair_of s o b ≡ 0
  no-pair b = go (eqb s latin1) (no-accent-below o b (omega (arith, (lies o own).1)))
    where
      go : (x : Bool) → composed o b ≡ 0 → cond x 0 (composed o b) ≡ 0
      go true e = refl
      go false e = e

  first-own : (b : ℕ) → first_sign s o b ≡ sign (alone s o) 1
  unfolding first_sign
  first-own b = rw (ne_eqb o 0x0D (lies o own).2, no-pair b)

  -- an octet that is its own character is shown as it is, whatever follows
  pub own-text : (rest : List ℕ) → utf8_of (signs s (o ∷ rest)) ≡ o ∷ utf8_of (signs s rest)
  unfolding signs utf8_of
  own-text [] = rw octets-own
  own-text (b ∷ rest) = rw (first-own b, octets-own)

  own-numbers : (rest : List ℕ) → numbers_in (signs s (o ∷ rest)) ≡ numbers_in (signs s rest)
  unfolding signs numbers_in
  own-numbers [] = rw alone-own
  own-numbers (b ∷ rest) = rw (first-own b, alone-own) (omega arith)

-- a plain octet, in any set
plain-own : (o : ℕ) → is_plain o ≡ true → is_own o ≡ true
unfolding is_plain
plain-own o t = (both (not (eqb o dollar)) (is_own o) t).1

no-dollar : (x d y : Bool) → (not d && y) ≡ true → (x && d) ≡ false
no-dollar x true y t = absurd (false≢true t)
no-dollar true false y t = refl
no-dollar false false y t = refl

plain_other : (s o : ℕ) → is_plain o ≡ true → is_currency s o ≡ false
unfolding is_plain
plain_other s o t = no-dollar (eqb s t61) (eqb o dollar) (is_own o) t

-- a run of plain octets is shown as it is, and none of them by its number
pub front-text : (s : ℕ) (ys : List ℕ) → utf8_of (signs s ys) ≡ plain_front ys ++ utf8_of (signs s (drop (length (plain_front ys)) ys))
unfolding plain_front
front-text s [] = refl
front-text s (o ∷ os) = go (is_plain o) refl (front-text s os)
  where
    go : (b : Bool) → is_plain o ≡ b → utf8_of (signs s os) ≡ plain_front os ++ utf8_of (signs s (drop (length (plain_front os)) os)) →
        utf8_of (signs s (o ∷ os)) ≡ cond b (o ∷ plain_front os) [] ++ utf8_of (signs s (drop (length (cond b (o ∷ plain_front os) [])) (o ∷ os)))
    go true e rest = own-text s o (plain-own o e) (plain_other s o e) os ∙ ap (λ r. o ∷ r) rest
    go false e rest = refl

pub front-numbers : (s : ℕ) (ys : List ℕ) → numbers_in (signs s ys) ≡ numbers_in (signs s (drop (length (plain_front ys)) ys))
unfolding plain_front
front-numbers s [] = refl
front-numbers s (o ∷ os) = go (is_plain o) refl (front-numbers s os)
  where
    go : (b : Bool) → is_plain o ≡ b → numbers_in (signs s os) ≡ numbers_in (signs s (drop (length (plain_front os)) os)) →
        numbers_in (signs s (o ∷ os)) ≡ numbers_in (signs s (drop (length (cond b (o ∷ plain_front os) [])) (o ∷ os)))
    go true e rest = own-numbers s o (plain-own o e) (plain_other s o e) os ∙ rest
    go false e rest = refl

pub front-short : (ys : List ℕ) → length (plain_front ys) ≤ length ys
unfolding plain_front
front-short [] = omega arith
front-short (o ∷ os) = go (is_plain o) (front-short os)
  where
    go : (b : Bool) → length (plain_front os) ≤ length os → length (cond b (o ∷ plain_front os) []) ≤ length (o ∷ os)
    go true h = omega arith
    go false h = omega arith
