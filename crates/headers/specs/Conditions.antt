-- When reading at a position is refused, by each of 2 to 8: a condition for each line of document 01's table, with W-202's words for 4, 5
-- and 7. No condition looks at another one. "Each is given exactly when its condition holds and no earlier one does" is proved of `head_at`
-- (proofs/Conditions: `refused-exactly`). One line is of no position and stands with the walk: "an indefinite item reaches it unclosed", 7
-- too (octets, specs/Rules: `unclosed`). `at` is the position, before `limit`; `marked` says whether the innermost open item is indefinite, and
-- `room` is how many levels are left.
use Rattle.std.specs.Prelude.{ℕ, ◌+◌, ◌-◌, ◌<◌, ◌≤◌, ◌≡◌, Bool, true, false, List, drop, take}
use Rattle.headers.specs.Head.{number_bits, constructed, is_in, form_allowed, above_thirty, big_endian, misfits, octet_at}

-- An item stands there: a 00 begins a closing mark, which "is no item".
abbrev pub ItemThere : List ℕ → (at : ℕ) → Type 0
ItemThere s at = octet_at s at ≡ 0 → ⊥

-- "number bits 11111": the number stands in the octets after the first
abbrev pub LongNumber : List ℕ → (at : ℕ) → Type 0
LongNumber s at = number_bits (octet_at s at) ≡ 31

-- The type field is there, before the limit, and ends before `past`: one octet, or "at most two octets after the first, .. bit 8 set on all
-- but the last".
pub data FieldTo (s : List ℕ) (at limit : ℕ) : (past : ℕ) → Type 0 where
  one : (LongNumber s at → ⊥) → FieldTo s at limit (at + 1)
  two : LongNumber s at → at + 1 < limit → octet_at s (at + 1) < 0x80 → FieldTo s at limit (at + 2)
  three : LongNumber s at → at + 2 < limit → 0x80 ≤ octet_at s (at + 1) → FieldTo s at limit (at + 3)

-- The header has an octet at this place, as the octets before the limit tell: one after the first of the type field, the first length
-- octet, or the last of those that follow it.
pub data HeaderHas (s : List ℕ) (at limit : ℕ) : (place : ℕ) → Type 0 where
  second : LongNumber s at → HeaderHas s at limit (at + 1)
  third : LongNumber s at → at + 1 < limit → 0x80 ≤ octet_at s (at + 1) → HeaderHas s at limit (at + 2)
  first_length : {from : ℕ} → FieldTo s at limit from → HeaderHas s at limit from
  last_length : {from : ℕ} → FieldTo s at limit from → from < limit → 0x80 < octet_at s from → octet_at s from < 0x85
      → HeaderHas s at limit (from + (octet_at s from - 0x80))

-- The length octets are there, before the limit, and say where a definite value starts and how many octets it has: "00 to 7F is the length
-- .. 81 to 84 say how many length octets follow, most significant first".
pub data ValueIs (s : List ℕ) (at limit : ℕ) : (start len : ℕ) → Type 0 where
  short : {from : ℕ} → FieldTo s at limit from → from < limit → octet_at s from < 0x80 → ValueIs s at limit (from + 1) (octet_at s from)
  long : {from : ℕ} → FieldTo s at limit from → from < limit → 0x80 < octet_at s from → octet_at s from < 0x85
      → from + 1 + (octet_at s from - 0x80) ≤ limit
      → ValueIs s at limit (from + 1 + (octet_at s from - 0x80)) (big_endian (take (octet_at s from - 0x80) (drop (from + 1) s)))

-- what 4 is for since W-202, "on the octets present"
pub data WrongNumber (s : List ℕ) (at limit : ℕ) : Type 0 where
  -- "over 16,383": the second octet after the first is not the last
  over : at + 2 < limit → 0x80 ≤ octet_at s (at + 1) → 0x80 ≤ octet_at s (at + 2) → WrongNumber s at limit
  -- "a first following octet of 80"
  led_by_80 : at + 1 < limit → octet_at s (at + 1) ≡ 0x80 → WrongNumber s at limit
  -- "or a number under 31"
  under_31 : at + 1 < limit → octet_at s (at + 1) < 31 → WrongNumber s at limit
  -- (A list may have a number there that is no octet. No stream does.)
  no_octet : at + 1 < limit → 0x100 ≤ octet_at s (at + 1) → WrongNumber s at limit

-- the condition of a number of 2 to 8 holds
pub data HeadRefuses (s : List ℕ) (at limit : ℕ) (marked : Bool) (room : ℕ) : (number : ℕ) → Type 0 where
  -- 2 "00 where no indefinite item is innermost"
  stray : octet_at s at ≡ 0 → marked ≡ false → HeadRefuses s at limit marked room 2
  -- 2 "or 00 followed within the limit by another byte than 00"
  half_mark : octet_at s at ≡ 0 → at + 1 < limit → (octet_at s (at + 1) ≡ 0 → ⊥) → HeadRefuses s at limit marked room 2
  -- 3 "item at level 17"
  too_deep : ItemThere s at → room ≡ 0 → HeadRefuses s at limit marked room 3
  -- 4 "number bits 11111", which "now means over 16,383, a first following octet of 80, or a number under 31"
  wrong_number : ItemThere s at → LongNumber s at → WrongNumber s at limit → HeadRefuses s at limit marked room 4
  -- 5 "universal form not in the table"
  wrong_form : ItemThere s at → (LongNumber s at → ⊥) → form_allowed (octet_at s at) ≡ false → HeadRefuses s at limit marked room 5
  -- 5 "also for a universal number above 30, read whole"
  universal_number : {past : ℕ} → ItemThere s at → LongNumber s at → is_in (octet_at s at) above_thirty ≡ false → FieldTo s at limit past
      → HeadRefuses s at limit marked room 5
  -- 6 "length octet 85 to FF"
  reserved : {from : ℕ} → ItemThere s at → FieldTo s at limit from → from < limit → 0x85 ≤ octet_at s from → HeadRefuses s at limit marked room 6
  -- 6 "or 80 on a primitive"
  unending : {from : ℕ} → ItemThere s at → FieldTo s at limit from → from < limit → octet_at s from ≡ 0x80 → constructed (octet_at s at) ≡ false
      → HeadRefuses s at limit marked room 6
  -- 7 "header .. passes the limit"
  header_cut : {place : ℕ} → ItemThere s at → HeaderHas s at limit place → limit ≤ place → HeadRefuses s at limit marked room 7
  -- 7 "value .. passes the limit"
  value_cut : {start len : ℕ} → ItemThere s at → ValueIs s at limit start len → limit < start + len → HeadRefuses s at limit marked room 7
  -- 7 "second 00 passes the limit"
  mark_cut : octet_at s at ≡ 0 → limit ≤ at + 1 → HeadRefuses s at limit marked room 7
  -- 8 "universal primitive: 1 not one octet, 5 not empty, 2 or 10 empty"
  misfit : {start len : ℕ} → ItemThere s at → ValueIs s at limit start len → misfits (octet_at s at) len ≡ true → HeadRefuses s at limit marked room 8

-- "the numbers in order within an item": the condition of the number holds, and none of an earlier one. The place is the item, or the 00.
pub record HeadRefused (s : List ℕ) (at limit : ℕ) (marked : Bool) (room : ℕ) (number place : ℕ) : Type 0 where
  pub here : place ≡ at
  pub refuses : HeadRefuses s at limit marked room number
  pub no_earlier : (n : ℕ) → n < number → HeadRefuses s at limit marked room n → ⊥
