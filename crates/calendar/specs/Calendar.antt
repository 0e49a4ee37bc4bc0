-- W-203: "four, two and two digits with hyphens between, naming a day of the Gregorian calendar, its leap rule in all years, 0001 on.
-- Bytes after the ten aren't judged."
use Rattle.std.specs.Prelude.{ℕ, ◌+◌, ◌*◌, ◌-◌, ◌/◌, ◌%◌, Bool, cond, not, ◌&&◌, ◌||◌, List, [], ◌∷◌, ◌++◌, eqb, leb, length, get_or}
use Rattle.names.specs.Names.{is_digit}
use Rattle.calendar.specs.declared.Day.{Day}

-- a year is a leap year by 4, not by 100, but by 400
abbrev pub leap : (year : ℕ) → Bool
leap year = eqb (year % 4) 0 && (not (eqb (year % 100) 0) || eqb (year % 400) 0)

-- the days of the months 1 to 12 in a common year; there is no month 0
abbrev pub month_days : List ℕ
month_days = 0 ∷ 31 ∷ 28 ∷ 31 ∷ 30 ∷ 31 ∷ 30 ∷ 31 ∷ 31 ∷ 30 ∷ 31 ∷ 30 ∷ 31 ∷ []

-- the days of a month of a year: February has one more in a leap year; what is no month has none
unfoldable pub days_in : (year month : ℕ) → ℕ
days_in year month = get_or month_days month 0 + cond (eqb month 2 && leap year) 1 0

-- "a day of the Gregorian calendar .. 0001 on"
unfoldable pub exists : Day → Bool
exists d = leb 1 d.year && leb 1 d.day && leb d.day (days_in d.year d.month)

-- the octet of the digit 0, and of the hyphen
abbrev pub zero_digit : ℕ
zero_digit = 0x30

abbrev pub hyphen : ℕ
hyphen = 0x2D

-- two digits from place i of a value, and the number that they spell
unfoldable pub two_digits : List ℕ → (i : ℕ) → Bool
two_digits value i = is_digit (get_or value i 0) && is_digit (get_or value (i + 1) 0)

unfoldable pub two_number : List ℕ → (i : ℕ) → ℕ
two_number value i = 10 * (get_or value i 0 - zero_digit) + (get_or value (i + 1) 0 - zero_digit)

-- "its first ten bytes: four, two and two digits with hyphens between"
unfoldable pub spells_ten : List ℕ → Bool
spells_ten value =
    leb 10 (length value) && two_digits value 0 && two_digits value 2 && eqb (get_or value 4 0) hyphen
    && two_digits value 5 && eqb (get_or value 7 0) hyphen && two_digits value 8

-- the year, the month and the day that they spell
unfoldable pub day_at : List ℕ → Day
day_at value =
    record { year = 100 * two_number value 0 + two_number value 2; month = two_number value 5; day = two_number value 8 }

-- "the first ten bytes name .. such day"
unfoldable pub names_day : List ℕ → Bool
names_day value = spells_ten value && exists (day_at value)

-- no day: 0 for year, month and day
abbrev pub no_day : Day
no_day = record { year = 0; month = 0; day = 0 }

-- the other way: how a day is spelt
abbrev pub two_spelt : ℕ → List ℕ
two_spelt n = (zero_digit + n / 10) ∷ (zero_digit + n % 10) ∷ []

unfoldable pub spelling : Day → List ℕ
spelling d =
    two_spelt (d.year / 100) ++ two_spelt (d.year % 100) ++ hyphen ∷ two_spelt d.month ++ hyphen ∷ two_spelt d.day
