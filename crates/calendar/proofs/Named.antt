-- A value names a day exactly when the day exists and its spelling is the value's first ten octets: `names`, and the other way `named`.
use mathlib.Core.Path.{◌≡◌, refl, ap, sym, ◌∙◌}
use mathlib.Core.Bool.{Bool, true, false, cond, ◌&&◌}
use mathlib.Core.List.{List, [], ◌∷◌}
use Prim.Native.Nat.{ℕ, zero, suc, ◌+◌, ◌*◌, ◌/◌, ◌%◌, ◌<◌, ◌≤◌, min}
use native.Mathlib.Omega.{arith}
use lib.Dec.{leb, eqb}
use lib.ListN.{length, get_or, take, length-take, get_or-eq_default}
use lib.Seq.{get_or-take}
use borrow.Author.Tests.{leb-true, leb-false, le-leb, eq-eqb, ne_eqb}
use Rattle.names.specs.Names.{is_digit}
use Rattle.calendar.specs.declared.Day.{Day}
use Rattle.calendar.specs.Calendar.{month_days, leap, days_in, exists, hyphen, two_digits, two_number, spells_ten, day_at, names_day, spelling}
use Rattle.calendar.specs.Named.{RealDay, Names}
use Rattle.calendar.proofs.Spelling.{both_true, two-bounds, two-small, Spelt, spelt-parts}

-- ---- the day exists

month-zero : (year month : ℕ) → month ≡ 0 → days_in year month ≡ 0
unfolding days_in
month-zero year month e = rw e

month-late : (year month : ℕ) → 12 < month → days_in year month ≡ 0
unfolding days_in
month-late year month l =
    let past : get_or month_days month 0 ≡ 0 = get_or-eq_default month_days 0 {n = month} (omega arith) in
    rw (past, ne_eqb month 2 (λ e. omega arith))

-- the tests of a day that exists
pub record Exists (d : Day) : Type 0 where
  pub year : 1 ≤ d.year
  pub day : 1 ≤ d.day
  pub within : d.day ≤ days_in d.year d.month

pub exists-parts : (d : Day) → exists d ≡ true → Exists d
unfolding exists
exists-parts d e =
    let p = both_true _ (leb d.day (days_in d.year d.month)) e in
    let q = both_true (leb 1 d.year) (leb 1 d.day) p.0 in
    record { year = leb-true 1 d.year q.0; day = leb-true 1 d.day q.1; within = leb-true _ _ p.1 }

some-month : (d : Day) → Exists d → (b : Bool) → leb 1 d.month ≡ b → 1 ≤ d.month
some-month d x true e = leb-true 1 d.month e
some-month d x false e =
    let l = leb-false 1 d.month e in
    let z : d.month ≡ 0 = omega arith in
    absurd (omega (arith, month-zero d.year d.month z, x.day, x.within))

no-late-month : (d : Day) → Exists d → (b : Bool) → leb d.month 12 ≡ b → d.month ≤ 12
no-late-month d x true e = leb-true d.month 12 e
no-late-month d x false e =
    absurd (omega (arith, month-late d.year d.month (leb-false d.month 12 e), x.day, x.within))

-- no month has more than 32 days, which is enough to know here
short : List ℕ → Bool
short [] = true
short (days ∷ more) = leb days 31 && short more

short-at : (l : List ℕ) → short l ≡ true → (i : ℕ) → get_or l i 0 ≤ 31
unfolding short
short-at [] e i = omega arith
short-at (days ∷ more) e zero = leb-true days 31 (both_true (leb days 31) (short more) e).0
short-at (days ∷ more) e (suc i) = short-at more (both_true (leb days 31) (short more) e).1 i

one_more : (b : Bool) → cond {A = ℕ} b 1 0 ≤ 1
one_more true = omega arith
one_more false = omega arith

pub days-small : (year month : ℕ) → days_in year month ≤ 32
unfolding days_in short
days-small year month = omega (arith, short-at month_days refl month, one_more (eqb month 2 && leap year))

pub real : (d : Day) → d.year ≤ 9999 → exists d ≡ true → RealDay d
real d l e =
    let x = exists-parts d e in
    record {
      first_year = x.year;
      last_year = l;
      first_month = some-month d x (leb 1 d.month) refl;
      last_month = no-late-month d x (leb d.month 12) refl;
      first_day = x.day;
      last_day = x.within;
    }

pub real-exists : (d : Day) → RealDay d → exists d ≡ true
unfolding exists
real-exists d x = rw (le-leb 1 d.year x.first_year, le-leb 1 d.day x.first_day, le-leb _ _ x.last_day)

-- ---- its spelling is the first ten octets

module _ (value : List ℕ) (i : ℕ) (e : two_digits value i ≡ true) where
  two-high : 0x30 + two_number value i / 10 ≡ get_or value i 0
  unfolding two_number
  two-high = let t = two-bounds value i e in omega arith

  two-low : 0x30 + two_number value i % 10 ≡ get_or value (i + 1) 0
  unfolding two_number
  two-low = let t = two-bounds value i e in omega arith

ten : (value : List ℕ) → 10 ≤ length value → take 10 value
    ≡ get_or value 0 0 ∷ get_or value 1 0 ∷ get_or value 2 0 ∷ get_or value 3 0 ∷ get_or value 4 0 ∷ get_or value 5 0 ∷ get_or value 6 0 ∷ get_or value 7 0
    ∷ get_or value 8 0 ∷ get_or value 9 0 ∷ []
ten [] l = absurd (omega arith)
ten (a ∷ []) l = absurd (omega arith)
ten (a ∷ b ∷ []) l = absurd (omega arith)
ten (a ∷ b ∷ c ∷ []) l = absurd (omega arith)
ten (a ∷ b ∷ c ∷ d ∷ []) l = absurd (omega arith)
ten (a ∷ b ∷ c ∷ d ∷ e ∷ []) l = absurd (omega arith)
ten (a ∷ b ∷ c ∷ d ∷ e ∷ f ∷ []) l = absurd (omega arith)
ten (a ∷ b ∷ c ∷ d ∷ e ∷ f ∷ g ∷ []) l = absurd (omega arith)
ten (a ∷ b ∷ c ∷ d ∷ e ∷ f ∷ g ∷ h ∷ []) l = absurd (omega arith)
ten (a ∷ b ∷ c ∷ d ∷ e ∷ f ∷ g ∷ h ∷ i ∷ []) l = absurd (omega arith)
ten (a ∷ b ∷ c ∷ d ∷ e ∷ f ∷ g ∷ h ∷ i ∷ j ∷ more) l = refl

spelt_back : (value : List ℕ) → Spelt value → take 10 value ≡ spelling (day_at value)
unfolding spelling day_at
spelt_back value p =
    let century = two-small value 0 p.century in
    let years = two-small value 2 p.years in
    let high : (100 * two_number value 0 + two_number value 2) / 100 ≡ two_number value 0 = omega arith in
    let low : (100 * two_number value 0 + two_number value 2) % 100 ≡ two_number value 2 = omega arith in
    ten value p.long
    ∙ rw (
      high,
      low,
      two-high value 0 p.century,
      two-low value 0 p.century,
      two-high value 2 p.years,
      two-low value 2 p.years,
      two-high value 5 p.month,
      two-low value 5 p.month,
      two-high value 8 p.day,
      two-low value 8 p.day,
      p.hyphen_one,
      p.hyphen_two,
    )

year-small : (value : List ℕ) → Spelt value → (day_at value).year ≤ 9999
unfolding day_at
year-small value p = omega (arith, two-small value 0 p.century, two-small value 2 p.years)

-- a value that names a day begins with the spelling of a day that exists
pub names : (value : List ℕ) → names_day value ≡ true → Names value (day_at value)
unfolding names_day
names value e =
    let p = both_true (spells_ten value) (exists (day_at value)) e in
    let parts = spelt-parts value p.0 in
    record { real = real (day_at value) (year-small value parts) p.1; begins = spelt_back value parts }

-- the other way: two octets that spell a number
module _ (value : List ℕ) (i n : ℕ) (l : n < 100) (high : get_or value i 0 ≡ 0x30 + n / 10) (low : get_or value (i + 1) 0 ≡ 0x30 + n % 10) where
  two-are : two_digits value i ≡ true
  unfolding two_digits is_digit
  two-are =
      let a : 0x30 ≤ get_or value i 0 = omega arith in
      let b : get_or value i 0 ≤ 0x39 = omega arith in
      let c : 0x30 ≤ get_or value (i + 1) 0 = omega arith in
      let d : get_or value (i + 1) 0 ≤ 0x39 = omega arith in
      rw (le-leb 0x30 (get_or value i 0) a, le-leb (get_or value i 0) 0x39 b, le-leb 0x30 (get_or value (i + 1) 0) c, le-leb (get_or value (i + 1) 0) 0x39 d)

  two_is : two_number value i ≡ n
  unfolding two_number
  two_is = omega arith

two_at : (value : List ℕ) (i n : ℕ) → n < 100 → get_or value i 0 ≡ 0x30 + n / 10 → get_or value (i + 1) 0 ≡ 0x30 + n % 10
    → (two_digits value i ≡ true) × (two_number value i ≡ n)
two_at value i n l high low = (two-are value i n l high low, two_is value i n l high low)

module _ (value : List ℕ) (d : Day) (x : Names value d) where
  octet-at : (i : ℕ) → i < 10 → get_or value i 0 ≡ get_or (spelling d) i 0
  octet-at i l = sym (get_or-take 10 value i 0 l) ∙ ap (λ (octets : List ℕ). get_or octets i 0) x.begins

  long-enough : 10 ≤ length value
  unfolding spelling
  long-enough =
      let e : min 10 (length value) ≡ 10 = sym (length-take 10 value) ∙ ap length x.begins in
      omega arith

  small : (d.year / 100 < 100) × (d.month < 100) × (d.day < 100)
  small =
      let r = x.real in
      let m = days-small d.year d.month in
      (omega arith, omega arith, omega arith)

  -- the four pairs of digits
  century-is : (two_digits value 0 ≡ true) × (two_number value 0 ≡ d.year / 100)
  unfolding spelling
  century-is = two_at value 0 (d.year / 100) small.0 (octet-at 0 (omega arith)) (octet-at 1 (omega arith))

  years-are : (two_digits value 2 ≡ true) × (two_number value 2 ≡ d.year % 100)
  unfolding spelling
  years-are = two_at value 2 (d.year % 100) (omega arith) (octet-at 2 (omega arith)) (octet-at 3 (omega arith))

  month-is : (two_digits value 5 ≡ true) × (two_number value 5 ≡ d.month)
  unfolding spelling
  month-is = two_at value 5 d.month small.1 (octet-at 5 (omega arith)) (octet-at 6 (omega arith))

  day-is : (two_digits value 8 ≡ true) × (two_number value 8 ≡ d.day)
  unfolding spelling
  day-is = two_at value 8 d.day small.2 (octet-at 8 (omega arith)) (octet-at 9 (omega arith))

  day-at-is : day_at value ≡ d
  unfolding day_at
  day-at-is =
      let y : 100 * (d.year / 100) + d.year % 100 ≡ d.year = omega arith in
      rw (century-is.1, years-are.1, month-is.1, day-is.1, y)

  is-spelt : spells_ten value ≡ true
  unfolding spells_ten spelling
  is-spelt =
      rw (
        le-leb 10 (length value) long-enough,
        century-is.0,
        years-are.0,
        eq-eqb (get_or value 4 0) hyphen (octet-at 4 (omega arith)),
        month-is.0,
        eq-eqb (get_or value 7 0) hyphen (octet-at 7 (omega arith)),
        day-is.0,
      )

  -- a value that begins with the spelling of a day that exists, names that day
  pub named : (names_day value ≡ true) × (day_at value ≡ d)
  unfolding names_day
  named = (rw (is-spelt, day-at-is, real-exists d x.real), day-at-is)
