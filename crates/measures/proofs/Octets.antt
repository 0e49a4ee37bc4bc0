-- The integer that octets are, by what the code looks at: how many there are, and the first two.
use mathlib.Core.Path.{◌≡◌, refl, ap, sym, ◌∙◌}
use mathlib.Core.Bool.{Bool, true, false, cond, not, ◌&&◌, false≢true}
use mathlib.Core.List.{List, [], ◌∷◌}
use Prim.Native.Nat.{ℕ, ◌<◌, ◌≤◌, ◌-◌, ◌^◌}
use native.Mathlib.Omega.{arith}
use lib.Dec.{eqb, leb}
use lib.ListN.{length, get_or}
use borrow.Author.Tests.{le-leb, lt-leb, leb-true, eq-eqb, ne_eqb}
use Rattle.std.specs.Prelude.{Some, None}
use Rattle.headers.specs.Head.{is_in, big_endian}
use Rattle.measures.specs.Integers.{nine_bits, shortest, is_integer, is_negative, distance_of, integer_of}

pub no_octets : (v : List ℕ) → length v ≡ 0 → is_integer v ≡ false
unfolding is_integer shortest
no_octets [] e = refl
no_octets (x ∷ xs) e = absurd (omega arith)

pub too_many : (v : List ℕ) → 4 < length v → is_integer v ≡ false
unfolding is_integer
too_many v l = rw (lt-leb (length v) 4 l)

pub one-octet : (v : List ℕ) → length v ≡ 1 → is_integer v ≡ true
unfolding is_integer shortest
one-octet [] e = absurd (omega arith)
one-octet (x ∷ []) e = refl
one-octet (x ∷ y ∷ ys) e = absurd (omega arith)

-- two or more, by the nine bits
pub more-octets : (v : List ℕ) → 2 ≤ length v → length v ≤ 4 → is_integer v ≡ not (is_in (nine_bits (get_or v 0 0) (get_or v 1 0)) (0 ∷ 511 ∷ []))
unfolding is_integer shortest
more-octets [] l m = absurd (omega arith)
more-octets (x ∷ []) l m = absurd (omega arith)
more-octets (x ∷ y ∷ ys) l m = rw (le-leb (length (x ∷ y ∷ ys)) 4 m)

-- by the nine bits as a number
module _ (v : List ℕ) (two : 2 ≤ length v) (four : length v ≤ 4) (nine : ℕ) (e : nine ≡ nine_bits (get_or v 0 0) (get_or v 1 0)) where
  told : is_integer v ≡ not (is_in nine (0 ∷ 511 ∷ []))
  told = more-octets v two four ∙ ap (λ (n : ℕ). not (is_in n (0 ∷ 511 ∷ []))) (sym e)

  pub all-zeros : nine ≡ 0 → false ≡ is_integer v
  all-zeros z = sym (told ∙ rw (eq-eqb nine 0 z))

  only-ones : (b : Bool) → not (cond b true false) ≡ not b
  only-ones true = refl
  only-ones false = refl

  pub not_zeros : (nine ≡ 0 → ⊥) → not (eqb nine 511) ≡ is_integer v
  not_zeros n = sym (told ∙ rw (ne_eqb nine 0 n) (only-ones (eqb nine 511)))

-- an integer has one octet at least and four at most
both_hold : (a b : Bool) → (a && b) ≡ true → (a ≡ true) × (b ≡ true)
both_hold true b e = (refl, e)
both_hold false b e = absurd (false≢true e)

some_octet : (v : List ℕ) → shortest v ≡ true → 1 ≤ length v
unfolding shortest
some_octet [] e = absurd (false≢true e)
some_octet (x ∷ xs) e = omega arith

pub octets-bounded : (v : List ℕ) → is_integer v ≡ true → (1 ≤ length v) × (length v ≤ 4)
unfolding is_integer
octets-bounded v e =
    let b = both_hold (leb (length v) 4) (shortest v) e in
    (some_octet v b.1, leb-true (length v) 4 b.0)

first-negative : (v : List ℕ) → 1 ≤ length v → is_negative v ≡ leb 128 (get_or v 0 0)
unfolding is_negative
first-negative [] l = absurd (omega arith)
first-negative (x ∷ xs) l = refl

-- the integer, case by case
pub no-integer : (v : List ℕ) → is_integer v ≡ false → None ≡ integer_of v
unfolding integer_of
no-integer v e = rw e

module _ (v : List ℕ) (e : is_integer v ≡ true) (n : ℕ) (b : n ≡ big_endian v) where
  pub not-under : get_or v 0 0 < 128 → Some (record { negative = false; distance = n }) ≡ integer_of v
  unfolding integer_of distance_of
  not-under l =
      let f : is_negative v ≡ false = first-negative v (octets-bounded v e).0 ∙ lt-leb 128 (get_or v 0 0) l in
      rw (e, f, b)

  pub under-zero : 128 ≤ get_or v 0 0 → (p : ℕ) → p ≡ 256 ^ length v → Some (record { negative = true; distance = p - n }) ≡ integer_of v
  unfolding integer_of distance_of
  under-zero l p q =
      let f : is_negative v ≡ true = first-negative v (octets-bounded v e).0 ∙ le-leb 128 (get_or v 0 0) l in
      rw (e, f, b, q)
