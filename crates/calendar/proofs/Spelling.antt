-- The parts of a value that is spelt as a date, and that the numbers in it are small.
use mathlib.Core.Path.{◌≡◌, refl}
use mathlib.Core.Bool.{Bool, true, false, ◌&&◌, false≢true}
use mathlib.Core.List.{List}
use Prim.Native.Nat.{ℕ, ◌+◌, ◌<◌, ◌≤◌}
use native.Mathlib.Omega.{arith}
use lib.Dec.{leb, eqb}
use lib.ListN.{length, get_or}
use borrow.Author.Tests.{leb-true, eqb-true}
use Rattle.names.specs.Names.{is_digit}
use Rattle.calendar.specs.Calendar.{hyphen, two_digits, two_number, spells_ten}

pub both_true : (a b : Bool) → (a && b) ≡ true → (a ≡ true) × (b ≡ true)
both_true true b e = (refl, e)
both_true false b e = absurd (false≢true e)

-- a digit is one of 48 to 57
pub digit-bounds : (octet : ℕ) → is_digit octet ≡ true → (48 ≤ octet) × (octet ≤ 57)
unfolding is_digit
digit-bounds octet e = let p = both_true (leb 48 octet) (leb octet 57) e in (leb-true _ _ p.0, leb-true _ _ p.1)

pub record Two (value : List ℕ) (i : ℕ) : Type 0 where
  pub high_least : 48 ≤ get_or value i 0
  pub high_most : get_or value i 0 ≤ 57
  pub low_least : 48 ≤ get_or value (i + 1) 0
  pub low_most : get_or value (i + 1) 0 ≤ 57

pub two-bounds : (value : List ℕ) (i : ℕ) → two_digits value i ≡ true → Two value i
unfolding two_digits
two-bounds value i e =
    let p = both_true (is_digit (get_or value i 0)) (is_digit (get_or value (i + 1) 0)) e in
    let a = digit-bounds (get_or value i 0) p.0 in
    let b = digit-bounds (get_or value (i + 1) 0) p.1 in
    record { high_least = a.0; high_most = a.1; low_least = b.0; low_most = b.1 }

pub two-small : (value : List ℕ) (i : ℕ) → two_digits value i ≡ true → two_number value i < 100
unfolding two_number
two-small value i e = let t = two-bounds value i e in omega arith

-- what it is to be spelt as a date
pub record Spelt (value : List ℕ) : Type 0 where
  pub long : 10 ≤ length value
  pub century : two_digits value 0 ≡ true
  pub years : two_digits value 2 ≡ true
  pub hyphen_one : get_or value 4 0 ≡ hyphen
  pub month : two_digits value 5 ≡ true
  pub hyphen_two : get_or value 7 0 ≡ hyphen
  pub day : two_digits value 8 ≡ true

pub spelt-parts : (value : List ℕ) → spells_ten value ≡ true → Spelt value
unfolding spells_ten
spelt-parts value e =
    let p6 = both_true _ (two_digits value 8) e in
    let p5 = both_true _ (eqb (get_or value 7 0) hyphen) p6.0 in
    let p4 = both_true _ (two_digits value 5) p5.0 in
    let p3 = both_true _ (eqb (get_or value 4 0) hyphen) p4.0 in
    let p2 = both_true _ (two_digits value 2) p3.0 in
    let p1 = both_true (leb 10 (length value)) (two_digits value 0) p2.0 in
    record {
      long = leb-true _ _ p1.0;
      century = p1.1;
      years = p2.1;
      hyphen_one = eqb-true _ _ p3.1;
      month = p4.1;
      hyphen_two = eqb-true _ _ p5.1;
      day = p6.1;
    }
