-- A letter taken octet by octet, for the block engine (W-209): the state after the octets so far, and what one octet more does to it. A step
-- is defined on every state and looks at no octet to come. The octets of a header are kept until it has come, and then the walk's own
-- `head_at` says what it is: rules 2 to 8 are not said again.
use Rattle.std.specs.Prelude.{ℕ, suc, ◌+◌, ◌-◌, min, Bool, true, false, cond, length, drop, eqb, ltb, leb}
use mathlib.Core.List.{List, [], ◌∷◌, ◌++◌, foldl}
use Rattle.headers.specs.declared.Header.{Header}
use Rattle.headers.specs.declared.Head.{Head}
use Rattle.headers.specs.declared.Head.TheVariants.{Item, ClosingMark, Refusal}
use Rattle.headers.specs.Head.{constructed, number_bits, octet_at, head_at}
use Rattle.octets.specs.Walk.{stream_limit, deepest}

-- An open item: a constructed one whose header has come and whose end has not. It ends at `bound`, or waits for its closing mark
-- (`marked`), which must come before `bound`.
pub record Open : Type 0 where
  pub bound : ℕ
  pub marked : Bool

-- Where the engine stands after the octets so far: with so many headers passed, in these open items, innermost first, before or in the
-- header at `at`, of which the octets `begun` have come; or with the first fault found.
pub data Standing : Type 0 where
  reading : (headers : ℕ) → (opens : List Open) → (at : ℕ) → (begun : List ℕ) → Standing
  found : (number place headers : ℕ) → Standing

pub record State : Type 0 where
  pub total : ℕ
  pub taken : ℕ
  pub standing : Standing

-- the limit of the run inside the innermost open item, or of the letter
abbrev pub limit_of : (total : ℕ) → List Open → ℕ
limit_of total [] = total
limit_of total (o ∷ outer) = o.bound

-- whether the innermost open item waits for its closing mark
abbrev pub marked_of : List Open → Bool
marked_of [] = false
marked_of (o ∷ outer) = o.marked

-- the levels left
abbrev pub room_of : List Open → ℕ
room_of opens = deepest - length opens

-- how many length octets follow the first one: "81 to 84 say how many length octets follow"
abbrev pub further : (first : ℕ) → ℕ
further first = cond (ltb first 0x85) (first - 0x80) 0

-- how many octets the type field has that begins with these, as far as they tell: "bit 8 set on all but the last", three at most
abbrev pub field_size : List ℕ → ℕ
field_size begun = cond (eqb (number_bits (octet_at begun 0)) 31) (cond (ltb (octet_at begun 1) 0x80) 2 3) 1

-- a header with a type field of so many octets: the first length octet and those that follow it come after
abbrev pub header_size : (field : ℕ) → List ℕ → ℕ
header_size field begun = field + 1 + further (octet_at begun field)

-- how many octets a header has that begins with these, as far as they tell
unfoldable pub wanted : List ℕ → ℕ
wanted begun = header_size (field_size begun) begun

-- a header has come: all of it, or all up to the limit
unfoldable pub whole : (begun : List ℕ) → (left : ℕ) → Bool
whole begun left = leb (min (wanted begun) left) (length begun)

-- what was read from a list that stands `by` further on in the letter
abbrev pub moved : (by : ℕ) → Head → Head
moved by (Item h) = Item (record { code = h.code; number = h.number; start = by + h.start; bound = by + h.bound; marked = h.marked })
moved by ClosingMark = ClosingMark
moved by (Refusal number place) = Refusal number (by + place)

-- At the place `at` every open item ends whose end is there, and one that waits for its mark there is refused: "an indefinite item
-- reaches it unclosed".
abbrev pub settle : (headers : ℕ) → (opens : List Open) → (at : ℕ) → Standing
settle headers [] at = reading headers [] at []
settle headers (o ∷ outer) at =
    cond (leb o.bound at)
    (cond o.marked (found 7 o.bound headers) (settle headers outer at))
    (reading headers (o ∷ outer) at [])

-- on the way to the next header, which is at `at`, and there
abbrev pub arrive : (taken headers : ℕ) → (opens : List Open) → (at : ℕ) → Standing
arrive taken headers opens at = cond (eqb at taken) (settle headers opens at) (reading headers opens at [])

-- an item goes on inside it, or after it if it is primitive
abbrev pub enter : Bool → (taken headers : ℕ) → (opens : List Open) → Header → Standing
enter true taken headers opens h = arrive taken headers (record { bound = h.bound; marked = h.marked } ∷ opens) h.start
enter false taken headers opens h = arrive taken headers opens h.bound

-- what a header that has come does
abbrev pub decide : (taken headers : ℕ) → (opens : List Open) → (at : ℕ) → Head → Standing
decide taken headers opens at (Item h) = enter (constructed h.code) taken (suc headers) opens h
decide taken headers opens at ClosingMark = arrive taken headers (drop 1 opens) (at + 2)
decide taken headers opens at (Refusal number place) = found number place headers

-- an octet of a header, the last of `begun`
unfoldable pub in_header : (total taken headers : ℕ) → (opens : List Open) → (at : ℕ) → (begun : List ℕ) → Standing
in_header total taken headers opens at begun =
    let left = limit_of total opens - at in
    cond (whole begun left)
    (decide taken headers opens at (moved at (head_at begun 0 left (marked_of opens) (room_of opens))))
    (reading headers opens at begun)

-- One octet more, with which `taken` have come: an octet of a value, which is only counted, or of a header. A finding of 1 to 8 "stays
-- while later bytes are counted".
abbrev pub onward : (total taken : ℕ) → (octet : ℕ) → Standing → Standing
onward total taken octet (found number place headers) = found number place headers
onward total taken octet (reading headers opens at begun) =
    cond (leb taken at) (arrive taken headers opens at) (in_header total taken headers opens at (begun ++ (octet ∷ [])))

unfoldable pub step : State → ℕ → State
step s octet = record { total = s.total; taken = suc s.taken; standing = onward s.total (suc s.taken) octet s.standing }

-- a block of octets
abbrev pub feed : State → List ℕ → State
feed s octets = foldl step s octets

-- nothing has come of a letter of so many octets, which is refused by 1 if they are too many
unfoldable pub fresh : (total : ℕ) → State
fresh total = record { total = total; taken = 0; standing = cond (leb total stream_limit) (reading 0 [] 0 []) (found 1 0 0) }

-- the state after these octets of a letter of so many
abbrev pub state_after : (total : ℕ) → (octets : List ℕ) → State
state_after total octets = feed (fresh total) octets
