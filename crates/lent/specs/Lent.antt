-- The mailroom's question in scratch that the caller lends, so that a box without much stack can ask it: rows, as numbers of 32 bits, and an index of
-- names, as numbers of 16. It is the short normal form (answers, specs/Short), but for 32: the lent numbers are too few for the letter's elements.
-- 32 comes after 8 and before 9: elements are counted once the walk has passed the stream, and rules 9 to 15 need the scratch.
-- What the scratch holds at exit is left open.
use Rattle.std.specs.Prelude.{◌≡◌, Bool, false, cond, ◌||◌, List, ℕ, ◌+◌, ◌*◌, leb, ltb, length, Ok, Err}
use Rattle.octets.specs.Told.{Outcome}
use Rattle.octets.specs.Walk.{walk_of}
use Rattle.normal.specs.Short.{short_limit}
use Rattle.rows.specs.Rows.{scratch_width}
use Rattle.elements.specs.declared.Edition.{Edition}
use Rattle.letters.specs.Lent.{rows_needed}
use Rattle.answers.specs.declared.Reason.{Reason}
use Rattle.answers.specs.declared.Written.{Written}
use Rattle.answers.specs.Answers.{ruled}
use Rattle.answers.specs.Short.{written_short, written_short_output}

-- how many numbers of 32 bits are enough for so many elements: twelve each
abbrev pub rows_for : (elements : ℕ) → ℕ
rows_for elements = elements * scratch_width

-- how many elements an index is made for: the least of 64, 128, .. 4,096 that is not less than these
abbrev pub size_for : (elements : ℕ) → ℕ
size_for n =
    cond (leb n 64) 64
    (cond (leb n 128) 128
    (cond (leb n 256) 256
    (cond (leb n 512) 512
    (cond (leb n 1024) 1024
    (cond (leb n 2048) 2048 4096)))))

-- how many numbers of 16 bits are enough for so many elements: for either name two heads and a link for each element of the size, and a mark
abbrev pub index_for : (elements : ℕ) → ℕ
index_for elements = 6 * size_for elements + 2

-- the lent numbers, so many rows and so long an index, are too few; more elements than can be accepted need no more
abbrev pub too_few : (s : List ℕ) (rows index : ℕ) → Bool
too_few s rows index = ltb rows (rows_for (rows_needed s)) || ltb index (index_for (rows_needed s))

-- of a stream that the walk refuses no element is counted
abbrev pub once_walked : Outcome → (few : Bool) → Bool
once_walked (Ok e) few = few
once_walked (Err r) few = false

-- 32 after a walk with no refusal
abbrev pub lacks : (s : List ℕ) (rows index : ℕ) → Bool
lacks s rows index = once_walked (walk_of s) (too_few s rows index)

-- rules 1 to 8, then 32, then rules 9 to 15
abbrev pub ruled_lent : Edition → (s : List ℕ) (rows index : ℕ) → Reason
ruled_lent edition s rows index = cond (lacks s rows index) (record { number = 32; place = 0 }) (ruled edition s)

-- whether 32 is given: "1 in the new question means over 65,535" comes first
abbrev pub is_lacking : (s : List ℕ) (rows index : ℕ) → Bool
is_lacking s rows index = cond (ltb short_limit (length s)) false (lacks s rows index)

unfoldable pub written_lent : Edition → (s out : List ℕ) (rows index : ℕ) → Written
written_lent edition s out rows index =
    cond (is_lacking s rows index) (record { number = 32; place = 0; length = 0 }) (written_short edition s out)

-- "everything but the scratch untouched"
unfoldable pub written_lent_output : Edition → (s out : List ℕ) (rows index : ℕ) → List ℕ
written_lent_output edition s out rows index = cond (is_lacking s rows index) out (written_short_output edition s out)

-- the contract of the question, with so many numbers lent for rows and so many for the index: its answer, and the output at exit
pub record LentOutcome (edition : Edition) (s out : List ℕ) (rows index : ℕ) (answer : Written) (out_after : List ℕ) : Type 0 where
  pub answered : answer ≡ written_lent edition s out rows index
  pub put : out_after ≡ written_lent_output edition s out rows index
