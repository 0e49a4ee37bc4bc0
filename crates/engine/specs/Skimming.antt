-- What the engine's own functions say, of a state, of a header and of the headers that lie in a block. No public contract cites this page.
use Rattle.std.specs.Prelude.{ℕ, ◌+◌, ◌-◌, ◌<◌, ◌≤◌, min, ◌≡◌, cond, List, [], take, drop, length, eqb, Result, Ok, Err}
use Rattle.headers.specs.declared.Head.{Head}
use Rattle.headers.specs.declared.Head.TheVariants.{Item, ClosingMark, Refusal}
use Rattle.octets.specs.Walk.{stream_limit, deepest}
use Rattle.blocks.specs.Engine.{Open, Standing, reading, found, State, limit_of, marked_of, settle, arrive, feed, decide}
use Rattle.engine.specs.declared.Blocks.{Blocks}
use Rattle.engine.specs.declared.ends.Unclosed.{Unclosed}
use Rattle.engine.specs.declared.skim.Seat.{Seat}
use Rattle.engine.specs.declared.skim.Skim.{Skim}
use Rattle.engine.specs.Stored.{opens_of, state_of}

-- the letter, the octets counted, and where the engine stands
abbrev pub with_standing : Blocks → Standing → State
with_standing b w = record { total = b.total; taken = b.taken; standing = w }

-- the open items, innermost first
abbrev pub opens : Blocks → List Open
opens b = opens_of b.level b.ends

-- what the code needs of a state that it goes on reading with
pub record Fine (b : Blocks) : Type 0 where
  pub depth : b.level ≤ deepest
  pub kept : b.have ≤ 7
  pub counted : b.headers ≤ b.taken
  pub small : b.total ≤ stream_limit

-- a state in which there is a finding, or which is fine
abbrev pub FineIfReading : Blocks → Type 0
FineIfReading b = b.number ≡ 0 → Fine b

-- r is b with the engine standing so, and as many headers
pub record Comes (b : Blocks) (w : Standing) (r : Blocks) : Type 0 where
  pub state : state_of r ≡ with_standing b w
  pub depth : r.level ≤ deepest
  pub kept : r.have ≤ 7
  pub headers : r.headers ≡ b.headers

-- what closing the items that end at a place leaves: so many open ones, or the one that was not closed
abbrev pub Closes : (level : ℕ) → (ends : List ℕ) → (at : ℕ) → Result ℕ Unclosed → Type 0
Closes level ends at (Ok left) = (left ≤ deepest) × ((k : ℕ) → settle k (opens_of level ends) at ≡ reading k (opens_of left ends) at [])
Closes level ends at (Err u) = (u.level ≤ deepest) × ((k : ℕ) → settle k (opens_of level ends) at ≡ found 7 u.place k)

-- where a header lies that was read from its own octets, with so many octets left before the limit and so many levels
abbrev pub Lying : (left room : ℕ) → Head → Type 0
Lying left room (Item h) = (2 ≤ h.start) × (h.start ≤ h.bound) × (h.bound ≤ left) × (0 < room)
Lying left room ClosingMark = 2 ≤ left
Lying left room (Refusal number place) = Unit {0}

-- what a header read from its own octets gives: a refusal is one of 2 to 8, at its first octet
abbrev pub Numbered : Head → Type 0
Numbered (Item h) = Unit {0}
Numbered ClosingMark = Unit {0}
Numbered (Refusal number place) = (0 < number) × (number ≤ 8) × (place ≡ 0)

-- One turn: from place i of a block the engine goes on to place j, having taken what stands between.
pub record Turns (b : Blocks) (block : List ℕ) (i : ℕ) (r : Blocks) (j : ℕ) : Type 0 where
  pub further : i ≤ j
  pub within : j ≤ length block
  pub fine : FineIfReading r
  pub fits : r.taken + (length block - j) ≤ r.total
  pub total : r.total ≡ b.total
  pub state : feed (state_of b) (drop i block) ≡ feed (state_of r) (drop j block)

-- the state before a header of which nothing has come
abbrev pub at_header : (total headers : ℕ) → List Open → (at : ℕ) → State
at_header total headers os at = record { total = total; taken = at; standing = reading headers os at [] }

-- What was read at place i of a block, as the letter has it at the place `at`.
abbrev pub back : (i at : ℕ) → Head → Head
back i at (Item h) = Item (record { code = h.code; number = h.number; start = at + (h.start - i); bound = at + (h.bound - i); marked = h.marked })
back i at ClosingMark = ClosingMark
back i at (Refusal number place) = Refusal number (at + (place - i))

-- what was read at place i from a header of so many octets
abbrev pub Ahead : (size i : ℕ) → Head → Type 0
Ahead size i (Item h) = i + size ≡ h.start
Ahead size i ClosingMark = size ≤ 2
Ahead size i (Refusal number place) = (0 < number) × (number ≤ 8) × (place ≡ i)

-- A header that lies in a block at i is read there: of so many octets, and what it does.
pub record Seen (total headers : ℕ) (os : List Open) (at : ℕ) (block : List ℕ) (i : ℕ) (head : Head) : Type 0 where
  pub size : ℕ
  pub some : 0 < size
  pub eight : size ≤ 8
  pub ahead : Ahead size i head
  pub state : feed (at_header total headers os at) (take size (drop i block))
      ≡ record { total = total; taken = at + size; standing = decide (at + size) headers os at (back i at head) }

-- the place in the letter of a place in the block
abbrev pub place_of : Seat → ℕ → ℕ
place_of seat i = seat.base + (i - seat.from)

-- The run that is read inside these open items: where it ends in the block, and whether it waits for a closing mark.
pub record InRun (seat : Seat) (ends : List ℕ) (s : Skim) : Type 0 where
  pub stop : s.stop ≡ seat.from + (limit_of seat.total (opens_of s.level ends) - seat.base)
  pub marked : s.marked ≡ marked_of (opens_of s.level ends)
  pub limit : limit_of seat.total (opens_of s.level ends) ≤ 2147483647

-- the skimming goes on at a place, inside so many open items
pub record GoesOn (seat : Seat) (ends : List ℕ) (level i headers : ℕ) (r : Skim) : Type 0 where
  pub inside : r.level ≡ level
  pub at : r.i ≡ i
  pub passed : r.headers ≡ headers
  pub number : r.number ≡ 0
  pub run : InRun seat ends r

-- a block that lies in its letter
pub record Seated (seat : Seat) : Type 0 where
  pub small : seat.total ≤ stream_limit
  pub short : seat.size ≤ stream_limit
  pub order : seat.from ≤ seat.size
  pub fits : seat.base + (seat.size - seat.from) ≤ seat.total

-- the skimming stands before a header that lies in the block
pub record Reads (seat : Seat) (ends : List ℕ) (s : Skim) (block : List ℕ) : Type 0 where
  pub seated : Seated seat
  pub size : seat.size ≡ length block
  pub from : seat.from ≤ s.i
  pub eight : s.i + 8 ≤ seat.size
  pub number : s.number ≡ 0
  pub depth : s.level ≤ deepest
  pub counted : s.headers ≤ place_of seat s.i
  pub sixteen : length ends ≡ deepest
  pub before : s.i < s.stop
  pub run : InRun seat ends s

-- What reading the header there leaves: the place of the next header, so many levels and headers and the ends; or a number.
pub record Skims (seat : Seat) (s : Skim) (ends block : List ℕ) (r : Skim) (after : List ℕ) : Type 0 where
  pub size : ℕ
  pub some : 0 < size
  pub eight : size ≤ 8
  pub depth : r.level ≤ deepest
  pub counted : r.headers ≤ s.headers + 1
  pub ahead : r.number ≡ 0 → s.i + size ≤ r.i
  pub all : (r.number ≡ 0 → ⊥) → r.i ≡ seat.size
  pub near : r.i ≤ seat.from + 2147483647
  pub kept : length after ≡ length ends
  pub run : r.number ≡ 0 → r.i < r.stop → InRun seat after r
  pub state : feed (at_header seat.total s.headers (opens_of s.level ends) (place_of seat s.i)) (take size (drop s.i block))
      ≡ record {
        total = seat.total;
        taken = place_of seat s.i + size;
        standing =
            cond (eqb r.number 0)
            (arrive (place_of seat s.i + size) r.headers (opens_of r.level after) (place_of seat r.i))
            (found r.number r.place r.headers);
      }

-- the skimming stands before the next header, and the items that end there are still open
pub record Before (seat : Seat) (ends : List ℕ) (s : Skim) : Type 0 where
  pub seated : Seated seat
  pub from : seat.from ≤ s.i
  pub near : s.i ≤ seat.from + 2147483647
  pub depth : s.level ≤ deepest
  pub run : s.number ≡ 0 → s.i < s.stop → InRun seat ends s

-- What closing them leaves, if the next header lies in the block; else nothing is done.
pub record Settles (seat : Seat) (ends : List ℕ) (s r : Skim) : Type 0 where
  pub depth : r.level ≤ deepest
  pub headers : r.headers ≡ s.headers
  pub stays : (s.number ≡ 0 → ⊥) → r ≡ s
  pub past : seat.size < s.i → r ≡ s
  pub same : r.number ≡ 0 → r.i ≡ s.i
  pub all : s.number ≡ 0 → (r.number ≡ 0 → ⊥) → r.i ≡ seat.size
  pub run : r.number ≡ 0 → r.i + 8 ≤ seat.size → (r.i < r.stop) × InRun seat ends r
  pub state : s.number ≡ 0 → s.i ≤ seat.size → settle s.headers (opens_of s.level ends) (place_of seat s.i)
      ≡ cond (eqb r.number 0) (reading s.headers (opens_of r.level ends) (place_of seat s.i) []) (found r.number r.place s.headers)

-- the state in which skimming a block leaves the engine
abbrev pub left_by : Seat → (begun ends : List ℕ) → Skim → Blocks
left_by seat begun ends s =
    record {
      total = seat.total;
      taken = place_of seat (min s.i seat.size);
      at = place_of seat s.i;
      level = s.level;
      headers = s.headers;
      number = s.number;
      place = s.place;
      have = 0;
      ends = ends;
      begun = begun;
    }
