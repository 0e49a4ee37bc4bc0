-- Arrays of zeros are the scratch that the judge asks for.
use mathlib.Core.Path.{◌≡◌, refl, ap, ◌∙◌}
use mathlib.Core.Bool.{Bool, true, false, cond}
use mathlib.Core.List.{List}
use Prim.Native.Nat.{ℕ, ◌+◌, ◌-◌, ◌*◌, ◌/◌, ◌<◌, ◌≤◌}
use native.Mathlib.Omega.{arith}
use lib.ListN.{length, replicate, length-replicate}
use Rattle.std.specs.Prelude.{Ok, Err}
use Rattle.names.specs.Hash.{hashes}
use Rattle.rows.specs.Rows.{scratch_width}
use Rattle.rows.specs.Index.{links_begin}
use Rattle.octets.specs.Told.{Outcome, ended}
use Rattle.octets.specs.Walk.{stream_limit, walk_of}
use Rattle.runs.specs.Runs.{whole_stream, Fine}
use Rattle.runs.proofs.Laws.{stream-fine, stream-within, stream-count, count-top}
use Rattle.letters.specs.Letter.{items_of_stream}
use Rattle.letters.specs.Lent.{rows_needed, Lent}
use Rattle.reading.specs.declared.Side.{Side}
use Rattle.answers.specs.declared.Question.{Question}
use Rattle.answers.specs.declared.Question.TheVariants.{List as Reading, Text, Sources}
use Rattle.answers.specs.Questions.{Roomy}
use Rattle.answers.specs.Asking.{rows_after, RoomyAfter, Sized}
use Rattle.answers.proofs.Zeros.{zeros-both}

zeros : (n : ℕ) → length (replicate {A = ℕ} n 0) ≡ n
zeros n = length-replicate n 0

-- rows, both indexes and bounds of a letter with no more rows than are lent
pub lent : (s : List ℕ) (rows index half : ℕ) (bounds : List ℕ) → length bounds ≡ 128 → index ≡ half + half → rows_needed s < half - links_begin half
    → rows_needed s * scratch_width ≤ rows → 0 < links_begin half → links_begin half ≤ hashes → Lent s (replicate rows 0) (replicate index 0) bounds
lent s rows index half bounds wide twice needed room some few =
    let both = zeros-both index half twice some few in record {
      identifiers = both.identifiers;
      logicals = both.logicals;
      rows = omega (arith, zeros rows);
      links = both.links (rows_needed s) needed;
      portions = omega (arith, wide);
    }

-- where the links begin in the arrays of either size
pub few-links : links_begin 1537 ≡ 1024
unfolding links_begin
few-links = refl

pub many-links : links_begin 12289 ≡ 8192
unfolding links_begin
many-links = refl

-- what the judge asks of a stream: that the walk passed it
pub walked-fine : (s : List ℕ) (at headers : ℕ) → walk_of s ≡ ended at headers → Fine s (whole_stream s) × (length s ≤ stream_limit)
walked-fine s at headers w = (stream-fine s at headers w, stream-within s at headers w)

-- the size that was told
pub few-of : {s : List ℕ} {walked : Outcome} {b : Bool} → b ≡ true → Sized s walked (cond b 512 4096) → Sized s walked 512
few-of e sized = rw e at sized

pub many-of : {s : List ℕ} {walked : Outcome} {b : Bool} → b ≡ false → Sized s walked (cond b 512 4096) → Sized s walked 4096
many-of e sized = rw e at sized

pub few-enough : {s : List ℕ} {walked : Outcome} {b : Bool} → b ≡ true → Sized s walked (cond b 512 4096) → rows_after walked s ≤ 512
few-enough e sized = (few-of e sized).enough

-- a question has the room that it wants, of any stream
pub with-room : (s : List ℕ) (walked : Outcome) (question : Question) (numbers : ℕ) → Roomy question s numbers → RoomyAfter walked question s numbers
with-room s (Ok end) question numbers room = room
with-room s (Err fault) question numbers room = tt

-- an array of three numbers an element is enough for the matches of a side, and one of four for the lines of a whole reading
pub list-room : (s : List ℕ) (walked : Outcome) (side : Side) (room n : ℕ) → rows_after walked s ≤ n / 3
    → RoomyAfter walked (Reading side room) s (length (replicate {A = ℕ} n 0))
list-room s (Ok end) side room n enough = omega (arith, enough, zeros n)
list-room s (Err fault) side room n enough = tt

pub sources-room : (s : List ℕ) (walked : Outcome) (side : Side) (n : ℕ) → rows_after walked s ≤ n / 3
    → RoomyAfter walked (Sources side) s (length (replicate {A = ℕ} n 0))
sources-room s (Ok end) side n enough = omega (arith, enough, zeros n)
sources-room s (Err fault) side n enough = tt

pub text-room : (s : List ℕ) (walked : Outcome) (side : Side) (room n : ℕ) → rows_after walked s ≤ n / 4
    → RoomyAfter walked (Text side room) s (length (replicate {A = ℕ} n 0))
text-room s (Ok end) side room n enough = omega (arith, enough, zeros n)
text-room s (Err fault) side room n enough = tt

-- a walk that ended came to the stream's end
pub walked_whole : (s : List ℕ) (at headers : ℕ) → walk_of s ≡ ended at headers → walk_of s ≡ ended (length s) headers
walked_whole s at headers w = w ∙ ap (λ (end : ℕ). ended end headers) (stream-count s at headers w).0

-- elements are items at the top, and each item has a header
pub no-more-rows : (s : List ℕ) (at headers : ℕ) → walk_of s ≡ ended at headers → rows_needed s ≤ headers
no-more-rows s at headers w = omega (arith, count-top (items_of_stream s), (stream-count s at headers w).1)
