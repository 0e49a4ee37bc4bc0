-- The date without the rest (W-206): what is promised of it. `first-date` (proofs/FirstDate) is a value of the record below. What it costs is no
-- theorem: it reads the octets of the first element, and of what follows it none.
use Rattle.std.specs.Prelude.{◌≡◌, true, List, [], ◌∷◌, ◌++◌, ℕ, ◌<◌, ◌≤◌, length}
use Rattle.headers.specs.Head.{is_in}
use Rattle.octets.specs.Walk.{ends, stream_limit}
use Rattle.fronts.specs.First.{walk_first}
use Rattle.elements.specs.declared.Edition.{Edition}
use Rattle.answers.specs.Dates.{dated, Bounds}
use Rattle.answers.specs.Dating.{refused_dated}
use Rattle.answers.specs.FirstDates.{first_date_of, with_unread, first_dated}
use Rattle.promises.specs.Demands.{IsAccepted}

-- the first element is whole in these octets: walked alone, it meets no fault
pub record WholeIn (front : List ℕ) : Type 0 where
  pub some : 0 < length front
  pub next : ℕ
  pub walked : (walk_first front).how ≡ ends next

-- "Refusals: those just named, then 23 and 24"
abbrev pub first_numbers_given : List ℕ
first_numbers_given = 0 ∷ 1 ∷ 2 ∷ 3 ∷ 4 ∷ 5 ∷ 6 ∷ 7 ∷ 8 ∷ 10 ∷ 11 ∷ 23 ∷ 24 ∷ []

pub record FirstDate (edition : Edition) : Type 0 where
  -- "Its answer always notes that the remainder is unread."
  pub unread : (s : List ℕ) → (first_dated edition s).unread ≡ 1
  -- "But for that note it equals W-203's whenever the whole stream is accepted."
  pub same : (s : List ℕ) → IsAccepted edition s → first_dated edition s ≡ with_unread (dated edition s)
  -- "A fault after the first element, 1 apart, doesn't change it.", nor does anything else: of any two remainders
  pub remainder : (front rest other : List ℕ) → WholeIn front → length (front ++ rest) ≤ stream_limit → length (front ++ other) ≤ stream_limit
      → first_dated edition (front ++ rest) ≡ first_dated edition (front ++ other)
  -- "The same holds when only the front of a stream is given, if the first element is whole in it."
  pub front : (front rest : List ℕ) → WholeIn front → length (front ++ rest) ≤ stream_limit → first_dated edition front ≡ first_dated edition (front ++ rest)
  -- what it may give, and where
  pub one_of : (s : List ℕ) → is_in (first_dated edition s).number first_numbers_given ≡ true
  pub inside : (s : List ℕ) → (first_dated edition s).place ≤ length s
  -- the bounds that are answered lie in the stream, and the part stands between them
  pub stands : (s : List ℕ) → Bounds s (first_date_of edition s).part (first_dated edition s).first (first_dated edition s).past
  -- a refusal gives an empty part and 0 for all but its number and place
  pub refused_empty : (s : List ℕ) → ((first_dated edition s).number ≡ 0 → ⊥) → ((first_date_of edition s).part ≡ [])
      × (first_dated edition s ≡ with_unread (refused_dated (first_dated edition s).number (first_dated edition s).place))
