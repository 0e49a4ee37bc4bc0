-- The promises of the characters hold.
use Prim.Native.Nat.{ℕ, zero, suc, ◌+◌, ◌*◌, ◌≤◌, ◌<◌}
use native.Mathlib.Omega.{arith}
use mathlib.Core.Path.{◌≡◌, refl, sym, ap, ◌∙◌}
use mathlib.Core.Bool.{Bool, true, false, cond}
use mathlib.Core.Logic.{◌⊎◌, inl, inr}
use mathlib.Core.List.{List, [], ◌∷◌, ◌++◌}
use lib.Dec.{leb, eqb}
use lib.ListN.{length, drop, replicate}
use borrow.Author.Tests.{le-leb, lt-leb, leb-false, ne_eqb}
use Rattle.characters.specs.declared.Shown.{Shown}
use Rattle.characters.specs.declared.Points.TheVariants.{Number}
use Rattle.characters.specs.Utf8.{utf8, utf8s}
use Rattle.characters.specs.Sets.{set_of, is_currency, left_point, point_of, t61, latin1}
use Rattle.characters.specs.Pairs.{composed, pair_of}
use Rattle.characters.specs.Signs.{alone, sign, first_sign, signs, utf8_of, text_of, numbers_of}
use Rattle.characters.specs.Answers.{most, room_of, fits_in, shown, shown_as, shown_output}
use Rattle.characters.proofs.Plain.{own-text}
use Rattle.characters.proofs.Rules.{no-accent-below}
use Rattle.promises_characters.specs.Promises.{Octets, Ascii, Characters}
use Rattle.promises_characters.proofs.Fine.{bounded, valid}
use Rattle.promises_characters.proofs.Cutting.{no-point, and-false, cut-signs, utf8_append, fewer-together, as-many-apart}
use Rattle.promises_characters.proofs.Places.{every_octet, placed, holds}

-- the answer by whether the text fits
module _ (set : ℕ) (xs out : List ℕ) where
  abbrev fits : Bool
  fits = fits_in set xs out

  abbrev Says : Shown → List ℕ → Type 0
  Says r after =
      ((r.number ≡ 0) ⊎ (r.number ≡ 18)) × (r.place ≡ 0)
      × (r.number ≡ 0 → (after ≡ text_of set xs ++ drop (length (text_of set xs)) out) × (r.length ≡ length (text_of set xs)) × (r.numbers ≡ numbers_of set xs))
      × (r.number ≡ 18 → (room_of (length out) < length (text_of set xs)) × (after ≡ out))

  says : Says (shown_as set xs out) (shown_output set xs out)
  unfolding shown_as shown_output
  says = go fits refl
    where
      go : (b : Bool) → fits ≡ b →
          Says (cond b (shown 0 (length (text_of set xs)) (numbers_of set xs)) (shown 18 0 0)) (cond b (text_of set xs ++ drop (length (text_of set xs)) out) out)
      go true e = (inl refl, refl, (λ z. (refl, refl, refl)), λ z. absurd (omega arith))
      go false e = (inr refl, refl, (λ z. absurd (omega arith)), λ z. (leb-false (length (text_of set xs)) (room_of (length out)) e, refl))

  too_short : room_of (length out) < length (text_of set xs) → (shown_as set xs out).number ≡ 18
  unfolding shown_as
  too_short h = rw (lt-leb (length (text_of set xs)) (room_of (length out)) h)

  does-fit : length (text_of set xs) ≤ room_of (length out) → (shown_as set xs out).number ≡ 0
  unfolding shown_as
  does-fit h = rw (le-leb (length (text_of set xs)) (room_of (length out)) h)

  never_short : Octets xs → 8 * length xs ≤ length out → 8 * length xs ≤ most → (shown_as set xs out).number ≡ 0
  never_short os h m = does-fit (go (leb (length out) most) (bounded set xs os))
    where
      go : (b : Bool) → length (text_of set xs) ≤ 8 * length xs → length (text_of set xs) ≤ cond b (length out) most
      go true k = omega arith
      go false k = omega arith

-- ASCII
other-set : (set : ℕ) → (set ≡ t61 → ⊥) → set_of set ≡ t61 → ⊥
other-set set n = go (leb set 2)
  where
    go : (b : Bool) → cond b set 0 ≡ t61 → ⊥
    go true e = n e
    go false e = omega arith

no-currency : (s o : ℕ) → (s ≡ t61 → ⊥) → is_currency s o ≡ false
no-currency s o n = rw (ne_eqb s t61 n)

itself-in : (s : ℕ) → (s ≡ t61 → ⊥) → (xs : List ℕ) → Ascii xs → utf8_of (signs s xs) ≡ xs
unfolding signs utf8_of
itself-in s n [] f = refl
itself-in s n (o ∷ xs) f = own-text s o f.0 (no-currency s o n) xs ∙ ap (λ r. o ∷ r) (itself-in s n xs f.1)

-- a control takes eight octets, and so does each of many
zero-alone : (s : ℕ) → alone s 0 ≡ Number 0
unfolding point_of left_point
zero-alone s = no-point s 0 (and-false (eqb s 1) 0xA4 0)

no-pair : (s : ℕ) → pair_of s 0 0 ≡ 0
no-pair s = go (eqb s latin1) (no-accent-below 0 0 (omega arith))
  where
    go : (b : Bool) → composed 0 0 ≡ 0 → cond b 0 (composed 0 0) ≡ 0
    go true e = refl
    go false e = e

zero-first : (s : ℕ) → first_sign s 0 0 ≡ sign (alone s 0) 1
unfolding first_sign
zero-first s = rw (no-pair s)

zero-sign : (s n : ℕ) → length (utf8_of (signs s (0 ∷ replicate n 0))) ≡ 8 + length (utf8_of (signs s (replicate n 0)))
unfolding utf8 utf8s signs utf8_of
zero-sign s zero = rw (zero-alone s)
zero-sign s (suc n) = rw (zero-first s, zero-alone s) (omega arith)

reached-in : (s n : ℕ) → length (utf8_of (signs s (replicate n 0))) ≡ 8 * n
unfolding signs utf8_of
reached-in s zero = refl
reached-in s (suc n) = zero-sign s n ∙ omega (arith, reached-in s n)

pub shown-text : Characters
shown-text = record {
  told = λ set xs out. ((says set xs out).0, (says set xs out).1);
  written = λ set xs out z. ((says set xs out).2 z).0;
  long = λ set xs out z. ((says set xs out).2 z).1;
  counted = λ set xs out z. ((says set xs out).2 z).2;
  short = λ set xs out z. ((says set xs out).3 z).0;
  too_short = too_short;
  untouched = λ set xs out z. ((says set xs out).3 z).1;
  valid = valid;
  every_octet = every_octet;
  holds = holds;
  placed = placed;
  cut = λ set xs a b ys e. ap utf8_of (cut-signs (set_of set) a b ys e xs) ∙ utf8_append (signs (set_of set) (xs ++ (a ∷ []))) (signs (set_of set) (b ∷ ys));
  together = λ set a b h e. fewer-together (set_of set) a b e;
  apart = λ set a b e. as-many-apart (set_of set) a b e;
  itself = λ set xs n f. itself-in (set_of set) (other-set set n) xs f;
  enough = bounded;
  never_short = never_short;
  reached = λ set n. reached-in (set_of set) n;
  determined = λ a b. (a.answered ∙ sym b.answered, a.put ∙ sym b.put);
}
