-- The date of the document (W-203): "Answer the bytes of the date as a part of the stream, with year, month and day from its first ten bytes". Where
-- a date stands in a profile is crate dates' to say (specs/Dates): the items [0] on the path A3, A0. Which days there are, and how they are spelt,
-- is crate calendar's (specs/Calendar, specs/Named).
use Rattle.std.specs.Prelude.{◌≡◌, ℕ, ◌≤◌, cond, List, [], ◌∷◌, eqb, length}
use Rattle.std.proofs.Math.Seq.{slice}
use Rattle.octets.specs.Walk.{Items}
use Rattle.tree.specs.Tree.{Tree, tree_of}
use Rattle.contents.specs.declared.Span.{Span}
use Rattle.contents.specs.Search.{first_run, items_in, no_span}
use Rattle.calendar.specs.declared.Day.{Day}
use Rattle.calendar.specs.Calendar.{no_day}
use Rattle.dates.specs.Dates.{Date, date_in}
use Rattle.dates.specs.Places.{Place, bounds, no_bounds, zeros_at, in_each_at}
use Rattle.elements.specs.declared.Edition.{Edition}
use Rattle.elements.specs.Judge.{profile_octet}
use Rattle.letters.specs.Letter.{items_of_stream}
use Rattle.answers.specs.declared.Reason.{Reason}
use Rattle.answers.specs.declared.Dated.{Dated}
use Rattle.answers.specs.Answers.{ruled}

-- what is answered: the number and place of a refusal, or 0 and 0; the octets of the date; year, month and day
pub record DateAnswer : Type 0 where
  pub number : ℕ
  pub place : ℕ
  pub part : List ℕ
  pub day : Day

-- "every refusal gives an empty part and 0 for year, month and day"
abbrev pub no_date : Reason → DateAnswer
no_date why = record { number = why.number; place = why.place; part = []; day = no_day }

-- what the rules refuse is refused; 23 and 24 come "after 15", and have "place 0"
abbrev pub date_after : (ruled : Reason) → Date → DateAnswer
date_after ruled date =
    cond (eqb ruled.number 0) (record { number = date.number; place = 0; part = date.value; day = date.day }) (no_date ruled)

-- the items of the profile, among the elements of a letter
abbrev pub profile_in : Tree → Tree
profile_in elements = first_run profile_octet elements

-- THE DATE of a stream: if rules 1 to 15 accept it, the date in its profile
unfoldable pub date_of : Edition → (s : List ℕ) → DateAnswer
date_of edition s = date_after (ruled edition s) (date_in (profile_in (tree_of s)))

-- Where it stands: the value of the one item on the path. With a refusal the bounds are 0 and 0.
abbrev pub date_places : Items → List Place
date_places elements = in_each_at 0xA3 (in_each_at 0xA0 zeros_at) (items_in profile_octet elements)

abbrev pub sole_span : List Place → Span
sole_span [] = no_span
sole_span (bounds first past ∷ []) = record { first = first; past = past }
sole_span (no_bounds ∷ []) = no_span
sole_span (one ∷ other ∷ more) = no_span

abbrev pub date_span : DateAnswer → List Place → Span
date_span date places = cond (eqb date.number 0) (sole_span places) no_span

-- the answer as seven numbers
abbrev pub dated_at : DateAnswer → Span → Dated
dated_at date span =
    record {
      number = date.number;
      place = date.place;
      first = span.first;
      past = span.past;
      year = date.day.year;
      month = date.day.month;
      day = date.day.day;
    }

unfoldable pub dated : Edition → (s : List ℕ) → Dated
dated edition s = dated_at (date_of edition s) (date_span (date_of edition s) (date_places (items_of_stream s)))

-- the contract of the question in numbers
abbrev pub DateOutcome : Edition → (s : List ℕ) → (answer : Dated) → Type 0
DateOutcome edition s answer = answer ≡ dated edition s

-- and of that which hands back the part: its octets
abbrev pub DatePartOutcome : Edition → (s part : List ℕ) → Type 0
DatePartOutcome edition s part = part ≡ (date_of edition s).part

-- The bounds bound that part of the stream: promises has it of every stream.
pub record Bounds (s octets : List ℕ) (first past : ℕ) : Type 0 where
  pub part : slice first past s ≡ octets
  pub order : first ≤ past
  pub inside : past ≤ length s
