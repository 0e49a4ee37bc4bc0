-- The date of the document (W-203): what is promised of it. "A date on the screen is the date in that document's own bytes": it is that of the one
-- item on the path, where that item stands, and it is a day that exists, as its first ten octets spell it. `document-date` (proofs/DocumentDate) is a
-- value of the record below.
use Rattle.std.specs.Prelude.{◌≡◌, ◌↔◌, List, [], ◌∷◌, ℕ, ◌≤◌, length}
use Rattle.std.proofs.Math.Seq.{slice}
use Rattle.octets.specs.Walk.{stream_limit}
use Rattle.tree.specs.Tree.{tree_of}
use Rattle.normal.specs.Normal.{normal_form}
use Rattle.calendar.specs.declared.Day.{Day}
use Rattle.calendar.specs.Named.{Names}
use Rattle.dates.specs.Dates.{DateItem, in_primitive, dates_in}
use Rattle.dates.specs.Places.{bounds}
use Rattle.elements.specs.declared.Edition.{Edition}
use Rattle.letters.specs.Letter.{refusal, items_of_stream, letter_in}
use Rattle.answers.specs.Dates.{profile_in, date_of, date_places, dated, Bounds}
use Rattle.answers.specs.Dating.{refused_dated}
use Rattle.promises.specs.Demands.{Answered, IsAccepted}

-- the items [0] on the path in the profile of a stream, 80 or A0, each A3 and each A0 in it counted
abbrev pub date_items : (s : List ℕ) → List DateItem
date_items s = dates_in (profile_in (tree_of s))

-- the document's date: there is one such item, it is primitive, and its first ten octets spell this day, which exists
pub record IsDate (s value : List ℕ) (d : Day) : Type 0 where
  pub only : date_items s ≡ in_primitive value ∷ []
  pub names : Names value d

-- of a letter
pub record DateOfLetter (edition : Edition) (s : List ℕ) : Type 0 where
  -- a date is shown exactly if it is the document's date
  pub shown : (value : List ℕ) (d : Day) → (date_of edition s ≡ record { number = 0; place = 0; part = value; day = d }) ↔ IsDate s value d
  -- 23 "not exactly one such item, or it is constructed"
  pub none_23 : ((date_of edition s).number ≡ 23) ↔ ((value : List ℕ) → date_items s ≡ in_primitive value ∷ [] → ⊥)
  -- 24 "the first ten bytes name no such day"
  pub none_24 : ((date_of edition s).number ≡ 24)
      ↔ ((value : List ℕ) × (date_items s ≡ in_primitive value ∷ []) × ((d : Day) → Names value d → ⊥))
  -- the part is where that item's value stands: equal octets elsewhere are not it
  pub stands : (date_of edition s).number ≡ 0 → (date_places (items_of_stream s) ≡ bounds (dated edition s).first (dated edition s).past ∷ [])
      × (slice (dated edition s).first (dated edition s).past s ≡ (date_of edition s).part)
  -- the normal form has the same date
  pub normal : length (normal_form s) ≤ stream_limit → date_of edition (normal_form s) ≡ date_of edition s

-- of any stream
pub record DocumentDate (edition : Edition) : Type 0 where
  -- "Refusals, after 15: 23 .. 24 ..; place 0"
  pub told : (s : List ℕ) → Answered s (23 ∷ 24 ∷ []) (dated edition s).number (dated edition s).place
  -- "every refusal gives an empty part and 0 for year, month and day"; the bounds are 0 too
  pub refused_empty : (s : List ℕ) → ((dated edition s).number ≡ 0 → ⊥)
      → ((date_of edition s).part ≡ []) × (dated edition s ≡ refused_dated (dated edition s).number (dated edition s).place)
  -- the bounds that are answered lie in the stream, and the part stands between them
  pub stands : (s : List ℕ) → Bounds s (date_of edition s).part (dated edition s).first (dated edition s).past
  -- what rules 1 to 15 refuse is refused by that number at that place
  pub refused_alike : (s : List ℕ) (number place headers : ℕ) → letter_in edition s ≡ refusal number place headers
      → dated edition s ≡ refused_dated number place
  pub of_letter : (s : List ℕ) → IsAccepted edition s → DateOfLetter edition s
