-- What the work behind the date learns: the numbers of a date that was looked for, and that they fit 32 bits.
use Rattle.std.specs.Prelude.{◌≡◌, ℕ, ◌≤◌, List, Result, Ok, Err}
use Rattle.octets.specs.Walk.{stream_limit}
use Rattle.dates.specs.declared.DateFound.{DateFound}
use Rattle.elements.specs.declared.Edition.{Edition}
use Rattle.answers.specs.declared.Dated.{Dated}
use Rattle.answers.specs.Dates.{date_of, dated, Bounds}
use Rattle.answers.specs.FirstDates.{first_numbers}

-- the numbers of a refusal
abbrev pub refused_dated : (number place : ℕ) → Dated
refused_dated number place = record { number = number; place = place; first = 0; past = 0; year = 0; month = 0; day = 0 }

-- the numbers of a date that was looked for: its place is 0
abbrev pub dated_as : Result DateFound ℕ → Dated
dated_as (Ok d) =
    record { number = 0; place = 0; first = d.first; past = d.past; year = d.day.year; month = d.day.month; day = d.day.day }
dated_as (Err number) = refused_dated number 0

-- they fit 32 bits
pub record NarrowDate (d : DateFound) : Type 0 where
  pub first : d.first ≤ stream_limit
  pub past : d.past ≤ stream_limit
  pub year : d.day.year ≤ 9999
  pub month : d.day.month ≤ 12
  pub day : d.day.day ≤ 32

abbrev pub Narrow : Result DateFound ℕ → Type 0
Narrow (Ok d) = NarrowDate d
Narrow (Err number) = number ≤ 24

-- the answer in numbers, with what `odif::date` needs to hand the part back; crate promises has that it holds of every stream (`DocumentDate.stands`)
pub record DateTells (edition : Edition) (s : List ℕ) (told : Dated) : Type 0 where
  pub answered : told ≡ dated edition s
  pub stands : Bounds s (date_of edition s).part told.first told.past

-- the answer by the first element, before the note is added
abbrev pub FirstTells : Edition → (s : List ℕ) → (told : Dated) → Type 0
FirstTells edition s told = told ≡ first_numbers edition s
