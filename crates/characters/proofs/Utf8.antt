-- The octets of a code point by its size, of what is shown, and of an octet's number.
use Prim.Native.Nat.{ℕ, suc, ◌+◌, ◌/◌, ◌%◌, ◌≤◌, ◌<◌}
use native.Mathlib.Numerals.{add-one}
use native.Mathlib.Omega.{arith}
use mathlib.Core.Path.{◌≡◌, refl, sym, ap, ◌∙◌}
use mathlib.Core.Bool.{Bool, true, false, cond}
use mathlib.Core.List.{List, [], ◌∷◌, ◌++◌, append-nil}
use lib.Dec.{ltb}
use lib.ListN.{length, set, length-append}
use lib.Seq.{sets}
use borrow.Author.Tests.{lt-ltb, le-ltb, ltb-true, ltb-false}
use Rattle.laws.proofs.Writes.{sets-append}
use Rattle.characters.specs.declared.Points.{Points}
use Rattle.characters.specs.declared.Points.TheVariants.{One, Two, Number}
use Rattle.characters.specs.Utf8.{next, utf8, utf8s}
use Rattle.characters.specs.Signs.{hex_digit, number_octets, octets_of}

pub utf8-one : (p : ℕ) → p < 0x80 → utf8 p ≡ p ∷ []
unfolding utf8
utf8-one p h = rw (lt-ltb p 0x80 h)

pub utf8-two : (p : ℕ) → 0x80 ≤ p → p < 0x800 → utf8 p ≡ (0xC0 + p / 64) ∷ next p ∷ []
unfolding utf8
utf8-two p l h = rw (le-ltb p 0x80 l, lt-ltb p 0x800 h)

pub utf8-three : (p : ℕ) → 0x800 ≤ p → p < 0x10000 → utf8 p ≡ (0xE0 + p / 4096) ∷ next (p / 64) ∷ next p ∷ []
unfolding utf8
utf8-three p l h =
    let m : 0x80 ≤ p = omega arith in
    rw (le-ltb p 0x80 m, le-ltb p 0x800 l, lt-ltb p 0x10000 h)

pub one-long : (p : ℕ) → p < 0x80 → length (utf8 p) ≡ 1
one-long p h = ap length (utf8-one p h)

pub two-long : (p : ℕ) → 0x80 ≤ p → p < 0x800 → length (utf8 p) ≡ 2
two-long p l h = ap length (utf8-two p l h)

pub three-long : (p : ℕ) → 0x800 ≤ p → p < 0x10000 → length (utf8 p) ≡ 3
three-long p l h = ap length (utf8-three p l h)

-- a point of these sets takes three octets at most
pub at-most-three : (p : ℕ) → p < 0x10000 → length (utf8 p) ≤ 3
at-most-three p h = go (ltb p 0x80) (ltb p 0x800) refl refl
  where
    go : (a b : Bool) → ltb p 0x80 ≡ a → ltb p 0x800 ≡ b → length (utf8 p) ≤ 3
    go true b e f = omega (arith, one-long p (ltb-true p 0x80 e))
    go false true e f = omega (arith, two-long p (ltb-false p 0x80 e) (ltb-true p 0x800 f))
    go false false e f = omega (arith, three-long p (ltb-false p 0x800 f) h)

-- stores one after another
pub two-stores : (l : List ℕ) (at x y : ℕ) → set (set l at x) (at + 1) y ≡ sets l at (x ∷ y ∷ [])
two-stores l at x y = rw (add-one at)

pub three-stores : (l : List ℕ) (at x y z : ℕ) → set (set (set l at x) (at + 1) y) (at + 2) z ≡ sets l at (x ∷ y ∷ z ∷ [])
three-stores l at x y z =
    let two : at + 2 ≡ suc (suc at) = omega arith in
    rw (add-one at, two)

-- one run of stores after another, from the place past it
pub join : (l : List ℕ) (i j : ℕ) (xs ys : List ℕ) → j ≡ i + length xs → sets (sets l i xs) j ys ≡ sets l i (xs ++ ys)
join l i j xs ys e = ap (λ n. sets (sets l i xs) n ys) e ∙ sym (sets-append l i xs ys)

pub join-four :
    (l : List ℕ) (i j k m : ℕ) (ws xs ys zs : List ℕ) → j ≡ i + length ws → k ≡ j + length xs → m ≡ k + length ys →
    sets (sets (sets (sets l i ws) j xs) k ys) m zs ≡ sets l i (ws ++ (xs ++ (ys ++ zs)))
join-four l i j k m ws xs ys zs ej ek em =
    join (sets (sets l i ws) j xs) k m ys zs em
    ∙ (join (sets l i ws) j k xs (ys ++ zs) ek ∙ join l i j ws (xs ++ (ys ++ zs)) ej)

pub is-point : (x : Points) (p : ℕ) → x ≡ One p → octets_of x ≡ utf8 p
unfolding utf8s
is-point x p e = ap octets_of e ∙ append-nil (utf8 p)

pub is-two : (x : Points) (p q : ℕ) → x ≡ Two p q → octets_of x ≡ utf8 p ++ utf8 q
unfolding utf8s
is-two x p q e = ap octets_of e ∙ ap (λ r. utf8 p ++ r) (append-nil (utf8 q))

pub is_number : (x : Points) (o : ℕ) → x ≡ Number o → octets_of x ≡ number_octets o
is_number x o e = ap octets_of e

pub digit-small : (v : ℕ) → v < 16 → hex_digit v < 0x80
digit-small v h = go (ltb v 10)
  where
    go : (b : Bool) → cond b (48 + v) (55 + v) < 0x80
    go true = omega arith
    go false = omega arith

pub number-octets : (o : ℕ) → number_octets o ≡ utf8 0x27E6 ++ (utf8 (hex_digit (o / 16)) ++ (utf8 (hex_digit (o % 16)) ++ utf8 0x27E7))
unfolding utf8s
number-octets o = ap (λ r. utf8 0x27E6 ++ (utf8 (hex_digit (o / 16)) ++ (utf8 (hex_digit (o % 16)) ++ r))) (append-nil (utf8 0x27E7))

pub bracket-long : (length (utf8 0x27E6) ≡ 3) × (length (utf8 0x27E7) ≡ 3)
unfolding utf8
bracket-long = (refl, refl)

pub digit-long : (v : ℕ) → v < 16 → length (utf8 (hex_digit v)) ≡ 1
digit-long v h = one-long (hex_digit v) (digit-small v h)

pub number-long : (o : ℕ) → o < 256 → length (number_octets o) ≡ 8
number-long o h =
    let high = digit-long (o / 16) (omega arith) in
    let low = digit-long (o % 16) (omega arith) in
    rw (number-octets o) (simp length-append (omega (arith, high, low, bracket-long.0, bracket-long.1)))
