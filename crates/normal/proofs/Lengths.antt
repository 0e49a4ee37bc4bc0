-- How many octets a length takes, what its leading zeros tell of that, and that its octets are written one after another.
use mathlib.Core.Path.{◌≡◌, refl, ap, sym, ◌∙◌}
use mathlib.Core.List.{List, [], ◌∷◌}
use Prim.Native.Nat.{ℕ, zero, suc, ◌+◌, ◌-◌, ◌*◌, ◌^◌, ◌/◌, ◌%◌, ◌<◌, ◌≤◌}
use native.Mathlib.Omega.{arith}
use native.Mathlib.Nat.{lt_of_lt_of_le, lt_of_not-le, le_trans, pow-suc}
use native.Mathlib.Numerals.{add-one}
use lib.Count.{count_leading_zeros, leading_length}
use lib.Dec.{ltb, lit≤}
use lib.ListN.{length, set, length-append}
use lib.Pow.{pow_mono}
use Rattle.std.proofs.lemmas.List.{set_comm}
use lib.Seq.{sets}
use borrow.Author.Tests.{le-ltb}
use Rattle.laws.proofs.Tests.{cond-holds}
use Rattle.normal.specs.Normal.{further_octets, number_octets, length_by, length_octets}
use Rattle.laws.proofs.Writes.{sets-append}

-- a number whose leading zeros and k digits make 32 is below 2 ^ k
pub zeros-lt : (n k : ℕ) → n < 2 ^ 32 → 32 ≤ count_leading_zeros 32 n + k → n < 2 ^ k
zeros-lt n k f h =
    let s = leading_length 32 n f in
    let short : s.0 ≤ k = omega (arith, s.1) in
    lt_of_lt_of_le s.2 (pow_mono short)

-- and one with fewer is not
pub zeros-ge : (n k : ℕ) → n < 2 ^ 32 → count_leading_zeros 32 n + k < 32 → 2 ^ k ≤ n
zeros-ge n k f h =
    let s = leading_length 32 n f in
    let long : suc k ≤ s.0 = omega (arith, s.1) in
    let twice : 2 ^ suc k ≤ 2 * n + 1 = le_trans (pow_mono long) s.3 in
    omega (arith, pow-suc 2 k, twice)

pub length_digits : (k n : ℕ) → length (number_octets k n) ≡ k
unfolding number_octets
length_digits zero n = refl
length_digits (suc k) n = simp (length-append, length_digits k (n / 256)) (omega arith)

length-by : (k n : ℕ) → length (length_by k n) ≡ k + 1
length-by zero n = refl
length-by (suc k) n = rw (length_digits (suc k) n) (omega arith)

pub length-length : (n : ℕ) → length (length_octets n) ≡ further_octets n + 1
length-length n = length-by (further_octets n) n

pub further-le : (n : ℕ) → further_octets n ≤ 4
further-le n =
    let P : ℕ → Type 0 = λ k. k ≤ 4 in
    cond-holds P (ltb n 0x80) (λ _. lit≤ tt)
    (λ _. cond-holds P (ltb n 0x100) (λ _. lit≤ tt)
    (λ _. cond-holds P (ltb n 0x10000) (λ _. lit≤ tt)
    (λ _. cond-holds P (ltb n 0x1000000) (λ _. lit≤ tt) (λ _. lit≤ tt))))

pub further-none : (n : ℕ) → further_octets n ≡ 0 → n < 0x80
further-none n e = lt_of_not-le (λ (h : 0x80 ≤ n).
    let P : ℕ → Type 0 = λ k. 1 ≤ k in
    let some : 1 ≤ further_octets n =
    rw (le-ltb n 0x80 h) (cond-holds P (ltb n 0x100) (λ _. lit≤ tt)
    (λ _. cond-holds P (ltb n 0x10000) (λ _. lit≤ tt)
    (λ _. cond-holds P (ltb n 0x1000000) (λ _. lit≤ tt) (λ _. lit≤ tt)))) in
    omega arith)

-- what is written past some numbers may be written before them
sets-before : (l : List ℕ) (at : ℕ) (xs : List ℕ) (i x : ℕ) → at + length xs ≤ i → set (sets l at xs) i x ≡ sets (set l i x) at xs
sets-before l at [] i x h = refl
sets-before l at (y ∷ ys) i x h =
    sets-before (set l at y) (suc at) ys i x (omega arith) ∙ ap (λ (k : List ℕ). sets k (suc at) ys) (set_comm l at i y x (λ e. omega arith))

-- the last digit, and then those above it
pub put-digit : (l : List ℕ) (at k n : ℕ) → 0 < k → sets l at (number_octets k n) ≡ sets (set l (at + (k - 1)) (n % 256)) at (number_octets (k - 1) (n / 256))
unfolding number_octets
put-digit l at zero n p = absurd (omega arith)
put-digit l at (suc k) n p =
    let e : suc k - 1 ≡ k = omega arith in
    let ds = number_octets k (n / 256) in
    let d = length_digits k (n / 256) in
    rw (e, sets-append l at ds (n % 256 ∷ []), d) (sets-before l at ds (at + k) (n % 256) (omega arith))

pub put_none : (l : List ℕ) (at k n : ℕ) → k ≤ 0 → l ≡ sets l at (number_octets k n)
unfolding number_octets
put_none l at k n h = let e : k ≡ 0 = omega arith in rw e

pub put-short : (l : List ℕ) (at n : ℕ) → further_octets n ≡ 0 → set l at (n % 256) ≡ sets l at (length_octets n)
put-short l at n e =
    let small : n % 256 ≡ n = omega (arith, further-none n e) in
    rw (small, e)

pub by-some : (k n : ℕ) → (k ≡ 0 → ⊥) → length_by k n ≡ (0x80 + k) ∷ number_octets k n
by-some zero n p = absurd (p refl)
by-some (suc k) n p = refl

pub put-long : (l : List ℕ) (at n k : ℕ) → k ≡ further_octets n → (k ≡ 0 → ⊥)
    → sets (set l at (0x80 + k)) (at + 1) (number_octets k n) ≡ sets l at (length_octets n)
put-long l at n k e p =
    rw (add-one at) (ap (sets l at) (sym (by-some k n p) ∙ ap (λ (j : ℕ). length_by j n) e))
