-- The octets of `is_usual` pass rules 2, 4 and 5, and with the lengths that it lets through rule 8.
use mathlib.Core.Path.{◌≡◌, refl}
use mathlib.Core.Bool.{Bool, true, false, not}
use mathlib.Core.Logic.{◌⊎◌, inl, inr}
use Prim.Native.Nat.{ℕ, ◌%◌, ◌<◌, ◌≤◌}
use native.Mathlib.Omega.{arith}
use lib.Dec.{eqb}
use borrow.Author.Tests.{le-ltb, ne_eqb, eqb-true, eqb-false, not-true}
use Rattle.headers.specs.Head.{number_bits, permits, form_allowed, misfits}

abbrev pub Good : (octet len : ℕ) → Type 0
Good octet len = (octet ≡ 0 → ⊥) × (number_bits octet ≡ 31 → ⊥) × (form_allowed octet ≡ true) × (misfits octet len ≡ false)

pub good-integer : (code len : ℕ) → code ≡ 2 → not (eqb len 0) ≡ true → Good code len
unfolding permits form_allowed misfits
good-integer code len e p = rw e (λ z. omega arith, λ z. omega arith, refl, not-true _ p)

pub good-null : (code len : ℕ) → code ≡ 5 → eqb len 0 ≡ true → Good code len
unfolding permits form_allowed misfits
good-null code len e p = rw (e, p) (λ z. omega arith, λ z. omega arith, refl, refl)

pub good-string : (code len : ℕ) → (code ≡ 4) ⊎ (code ≡ 18) → Good code len
unfolding permits form_allowed misfits
good-string code len (inl e) = rw e (λ z. omega arith, λ z. omega arith, refl, refl)
good-string code len (inr e) = rw e (λ z. omega arith, λ z. omega arith, refl, refl)

in_two : (octet : ℕ) → 48 ≤ octet → octet < 50 → (b : Bool) → eqb octet 48 ≡ b → (octet ≡ 48) ⊎ (octet ≡ 49)
in_two octet l h true e = inl (eqb-true _ _ e)
in_two octet l h false e = let n = eqb-false octet 48 e in inr (omega arith)

good_of : (code len : ℕ) → (code ≡ 48) ⊎ (code ≡ 49) → Good code len
unfolding permits form_allowed misfits
good_of code len (inl e) = rw e (λ z. omega arith, λ z. omega arith, refl, refl)
good_of code len (inr e) = rw e (λ z. omega arith, λ z. omega arith, refl, refl)

pub good-sequence : (code len : ℕ) → 48 ≤ code → code < 50 → Good code len
good-sequence code len l h = good_of code len (in_two code l h (eqb code 48) refl)

pub good-other : (code len : ℕ) → 64 ≤ code → not (eqb (code % 32) 31) ≡ true → Good code len
unfolding form_allowed misfits
good-other code len l p = (
  λ z. omega arith,
  eqb-false _ _ (not-true _ p),
  simp (le-ltb code 64 l),
  simp (ne_eqb code 1 (λ z. omega arith), ne_eqb code 5 (λ z. omega arith), ne_eqb code 2 (λ z. omega arith), ne_eqb code 10 (λ z. omega arith)),
)
