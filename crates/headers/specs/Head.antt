-- "Reading at a position yields an item header, a closing mark or a refusal." Document 01, "Octet rules" and numbers 2 to 8,
-- which are tested in their order; X.209, 6.2 and 6.3. First the octet that begins an item, then what length octets say, then the header.
-- `at` is the position, `limit` the end of the nearest enclosing definite item or of the stream, `marked` says whether the innermost open
-- item is indefinite, and `room` is how many levels are left.
use Rattle.std.specs.Prelude.{ℕ, ◌/◌, ◌%◌, ◌+◌, ◌*◌, ◌-◌, Bool, cond, false, true, ◌||◌, not, List, [], ◌∷◌, drop, get_or, take, eqb, ltb, leb, Result, Ok, Err}
use Rattle.headers.specs.declared.Head.{Head}
use Rattle.headers.specs.declared.Head.TheVariants.{Item, ClosingMark, Refusal}
use Rattle.headers.specs.declared.Field.{Field}

-- "class in bits 8 and 7": universal is 00
abbrev pub universal : ℕ → Bool
universal octet = ltb octet 64

-- "form in bit 6 (1 is constructed)"
abbrev pub constructed : ℕ → Bool
constructed octet = eqb (octet / 32 % 2) 1

-- "number in bits 5 to 1", of the first octet
abbrev pub number_bits : ℕ → ℕ
number_bits octet = octet % 32

-- whether n is one of a list
abbrev pub is_in : ℕ → List ℕ → Bool
is_in n [] = false
is_in n (x ∷ xs) = cond (eqb n x) true (is_in n xs)

-- "1, 2, 5, 6, 9, 10 primitive"
abbrev pub primitive_only : List ℕ
primitive_only = 1 ∷ 2 ∷ 5 ∷ 6 ∷ 9 ∷ 10 ∷ []

-- "8, 16, 17 constructed"
abbrev pub constructed_only : List ℕ
constructed_only = 8 ∷ 16 ∷ 17 ∷ []

-- "3, 4, 7, 11 and 18 to 27 either"; the other numbers below 31 never
abbrev pub either_form : List ℕ
either_form = 3 ∷ 4 ∷ 7 ∷ 11 ∷ 18 ∷ 19 ∷ 20 ∷ 21 ∷ 22 ∷ 23 ∷ 24 ∷ 25 ∷ 26 ∷ 27 ∷ []

-- whether a universal number may have a form: true is constructed
unfoldable pub permits : ℕ → Bool → Bool
permits n true = is_in n constructed_only || is_in n either_form
permits n false = is_in n primitive_only || is_in n either_form

-- "Universal numbers have a fixed table .. for their form .. Other classes may have either form."
unfoldable pub form_allowed : ℕ → Bool
form_allowed octet = cond (universal octet) (permits (number_bits octet) (constructed octet)) true

-- The octets with number bits 11111 whose class is not universal: "5 also for a universal number above 30".
abbrev pub above_thirty : List ℕ
above_thirty = 0x5F ∷ 0x7F ∷ 0x9F ∷ 0xBF ∷ 0xDF ∷ 0xFF ∷ []

-- A type field is held as one number, its code: the first octet, and 256 times the octets after it. So the code of one octet is that octet.
abbrev pub code_of : (type : List ℕ) → ℕ
code_of [] = 0
code_of (octet ∷ octets) = octet + 256 * code_of octets

-- one or two octets after the first, by their code: the first of two has bit 8 set
abbrev pub field_after : (first rest : ℕ) → List ℕ
field_after first rest = cond (ltb rest 0x80) (first ∷ rest ∷ []) (first ∷ rest % 256 ∷ rest / 256 ∷ [])

-- the type field that a code stands for: more octets follow where the number bits are 11111
abbrev pub type_field : (code : ℕ) → List ℕ
type_field code = cond (eqb (number_bits code) 31) (field_after (code % 256) (code / 256)) (code ∷ [])

-- "seven bits each, bit 8 set on all but the last"
abbrev pub number_after : (rest : ℕ) → ℕ
number_after rest = cond (ltb rest 0x80) rest (rest % 128 * 128 + rest / 256)

-- the number of a type field: that of its first octet, or of those after it
abbrev pub type_number : (code : ℕ) → ℕ
type_number code = cond (eqb (number_bits code) 31) (number_after (code / 256)) (number_bits code)

-- the number whose octets go on with these, where those before them are n
unfoldable pub big_endian_from : ℕ → List ℕ → ℕ
big_endian_from n [] = n
big_endian_from n (x ∷ xs) = big_endian_from (n * 256 + x) xs

-- "length octets follow, most significant first"; leading zero octets are legal
abbrev pub big_endian : List ℕ → ℕ
big_endian xs = big_endian_from 0 xs

-- "universal primitive: 1 not one octet, 5 not empty, 2 or 10 empty". Such an item's code is its number.
unfoldable pub misfits : (code len : ℕ) → Bool
misfits code len =
    cond (eqb code 1) (not (eqb len 1))
    (cond (eqb code 5) (not (eqb len 0))
    (cond (eqb code 2) (eqb len 0)
    (cond (eqb code 10) (eqb len 0) false)))

-- the octet at a position
abbrev pub octet_at : List ℕ → ℕ → ℕ
octet_at s at = get_or s at 0

-- A definite item, whose value of len octets starts at start: 7 if the value passes the limit, 8 if its length is wrong.
unfoldable pub definite_at : (code at start len limit : ℕ) → Head
definite_at code at start len limit =
    cond (leb (start + len) limit)
    (cond (misfits code len) (Refusal 8 at)
    (Item (record { code = code; number = type_number code; start = start; bound = start + len; marked = false })))
    (Refusal 7 at)

-- An item with the length octet 80, at `from`: indefinite; 6 "80 on a primitive".
unfoldable pub indefinite_at : (code at from limit : ℕ) → Head
indefinite_at code at from limit =
    cond (constructed code) (Item (record { code = code; number = type_number code; start = from + 1; bound = limit; marked = true })) (Refusal 6 at)

-- An item with k length octets after the first, which is at `from`: 7 if one of them passes the limit.
unfoldable pub long_at : List ℕ → (code at from k limit : ℕ) → Head
long_at s code at from k limit =
    cond (leb (from + 1 + k) limit) (definite_at code at (from + 1 + k) (big_endian (take k (drop (from + 1) s))) limit) (Refusal 7 at)

-- "The first length octet decides: 00 to 7F is the length; 80 is indefinite; 81 to 84 say how many length octets follow ..;
-- 85 to FF are refused", by 6.
unfoldable pub by_first : List ℕ → (code at from first limit : ℕ) → Head
by_first s code at from first limit =
    cond (ltb first 0x80) (definite_at code at (from + 1) first limit)
    (cond (eqb first 0x80) (indefinite_at code at from limit)
    (cond (ltb first 0x85) (long_at s code at from (first - 0x80) limit)
    (Refusal 6 at)))

-- The length octets, from `from` on: 7 if the first of them passes the limit.
unfoldable pub length_at : List ℕ → (code at from limit : ℕ) → Head
length_at s code at from limit = cond (ltb from limit) (by_first s code at from (octet_at s from) limit) (Refusal 7 at)

-- What is read of a type field: what an item holds of it and the place past it, or the number of a refusal.
abbrev pub read_field : (code past : ℕ) → Result Field ℕ
read_field code past = Ok (record { code = code; past = past })

-- A type field whose number was read: 5 "for a universal number above 30, read whole".
abbrev pub numbered_field : (first code past : ℕ) → Result Field ℕ
numbered_field first code past = cond (is_in first above_thirty) (read_field code past) (Err 5)

-- The second octet after the first ends the number: 4 "over 16,383" if it has bit 8 set.
abbrev pub by_third : (first second third at : ℕ) → Result Field ℕ
by_third first second third at =
    cond (ltb third 0x80) (numbered_field first (code_of (first ∷ second ∷ third ∷ [])) (at + 3)) (Err 4)

-- The octet after the first decides: 1F to 7F is the number; 81 to FF say that one octet more follows; 4 "a first following octet of 80,
-- or a number under 31". 7 if the one more passes the limit.
abbrev pub by_second : List ℕ → (first second at limit : ℕ) → Result Field ℕ
by_second s first second at limit =
    cond (ltb second 31) (Err 4)
    (cond (ltb second 0x80) (numbered_field first (code_of (first ∷ second ∷ [])) (at + 2))
    (cond (eqb second 0x80) (Err 4)
    (cond (ltb second 0x100) (cond (ltb (at + 2) limit) (by_third first second (octet_at s (at + 2)) at) (Err 7))
    (Err 4))))

-- A type field with number bits 11111: 7 if the octet after the first passes the limit.
abbrev pub long_field : List ℕ → (first at limit : ℕ) → Result Field ℕ
long_field s first at limit = cond (ltb (at + 1) limit) (by_second s first (octet_at s (at + 1)) at limit) (Err 7)

-- The type field at `at`, which begins with this octet: 5 "universal form not in the table".
abbrev pub field_at : List ℕ → (octet at limit : ℕ) → Result Field ℕ
field_at s octet at limit =
    cond (eqb (number_bits octet) 31) (long_field s octet at limit)
    (cond (form_allowed octet) (read_field octet (at + 1))
    (Err 5))

-- what follows a type field: the length octets
abbrev pub after_field : List ℕ → (at limit : ℕ) → Result Field ℕ → Head
after_field s at limit (Ok field) = length_at s field.code at field.past limit
after_field s at limit (Err number) = Refusal number at

-- An item: 3 "item at level 17", then its type field and its length octets.
unfoldable pub item_at : List ℕ → (octet at limit room : ℕ) → Head
item_at s octet at limit room = cond (eqb room 0) (Refusal 3 at) (after_field s at limit (field_at s octet at limit))

-- A 00: "The closing mark is 00 00 and ends the innermost open item if that is indefinite." 2 "00 where no indefinite item is
-- innermost, or 00 followed within the limit by another byte than 00"; 7 "second 00 passes the limit".
unfoldable pub closing_at : List ℕ → (at limit : ℕ) → (marked : Bool) → Head
closing_at s at limit marked =
    cond marked
    (cond (ltb (at + 1) limit)
    (cond (eqb (octet_at s (at + 1)) 0) ClosingMark (Refusal 2 at))
    (Refusal 7 at))
    (Refusal 2 at)

-- what stands at `at`, which is before the limit
unfoldable pub head_at : List ℕ → (at limit : ℕ) → (marked : Bool) → (room : ℕ) → Head
head_at s at limit marked room =
    cond (eqb (octet_at s at) 0) (closing_at s at limit marked) (item_at s (octet_at s at) at limit room)
