-- What the pass over a profile finds, and what it tells of that: `dates-places` (proofs/Trees) shows that the places are the items of the tree.
use Rattle.std.specs.Prelude.{ℕ, zero, suc, ◌+◌, ◌≤◌, ◌≡◌, cond, List, [], ◌∷◌, eqb, length, Result, Ok, Err}
use Rattle.std.proofs.Math.Seq.{slice}
use Rattle.octets.specs.Walk.{Items}
use Rattle.runs.specs.declared.Run.{Run}
use Rattle.runs.specs.Runs.{items_of, tree_in}
use Rattle.dates.specs.declared.DateFound.{DateFound}
use Rattle.dates.specs.declared.Found.{Found}
use Rattle.dates.specs.declared.Found.TheVariants.{Nothing, Sole, Unfit}
use Rattle.dates.specs.Dates.{DateItem, in_primitive, in_constructed, Date, no_date_by, date_in}
use Rattle.dates.specs.Places.{bounds, Place, no_bounds, zeros_at, in_each_at}

-- the octets of the path, by how many are still to come after them
abbrev pub path_octet : (level : ℕ) → ℕ
path_octet level = cond (eqb level 0) 0xA0 0xA3

-- the items [0] at the end of the path, from a run that is so many octets before it
unfoldable pub places_from : (level : ℕ) → Items → List Place
places_from zero = zeros_at
places_from (suc level) = in_each_at (path_octet level) (places_from level)

-- a place, read in the stream
abbrev pub read_at : List ℕ → Place → DateItem
read_at s (bounds first past) = in_primitive (slice first past s)
read_at s no_bounds = in_constructed

-- a constructed item counts as two: exactly one primitive item is a count of 1
abbrev pub count_of : Place → ℕ
count_of (bounds first past) = 1
count_of no_bounds = 2

unfoldable pub counted : List Place → ℕ
counted [] = 0
counted (p ∷ ps) = count_of p + counted ps

-- an item, if it is [0]
abbrev pub found_at : (code first past : ℕ) → Found
found_at code first past = cond (eqb code 0x80) (Sole first past) (cond (eqb code 0xA0) Unfit Nothing)

-- what was found in one run and then in another
abbrev pub both : Found → Found → Found
both Nothing b = b
both (Sole first past) Nothing = Sole first past
both (Sole first past) (Sole from to) = Unfit
both (Sole first past) Unfit = Unfit
both Unfit Nothing = Unfit
both Unfit (Sole from to) = Unfit
both Unfit Unfit = Unfit

-- what the pass tells of the places that it found: there is none, there is one with these bounds, or there is none that serves
pub data Tells (s : List ℕ) : List Place → Found → Type 0 where
  no_place : Tells s [] Nothing
  sole : (first past : ℕ) → first ≤ past → past ≤ length s → Tells s (bounds first past ∷ []) (Sole first past)
  unfit : (places : List Place) → 2 ≤ counted places → Tells s places Unfit

-- the answer, in the words of W-203: the octets and the day of a date that was found, or its refusal
abbrev pub date_told : List ℕ → Result DateFound ℕ → Date
date_told s (Ok d) = record { number = 0; value = slice d.first d.past s; day = d.day }
date_told s (Err number) = no_date_by number

-- a date that was found is a part of the stream: that of the one item on the path
pub record Stands (s : List ℕ) (profile : Run) (d : DateFound) : Type 0 where
  pub order : d.first ≤ d.past
  pub inside : d.past ≤ length s
  pub place : places_from 2 (items_of s profile) ≡ bounds d.first d.past ∷ []

-- where the date stands; the number of a refusal is not 0, which is that of none
abbrev pub Placed : List ℕ → Run → Result DateFound ℕ → Type 0
Placed s profile (Ok d) = Stands s profile d
Placed s profile (Err number) = number ≡ 0 → ⊥

-- The answer for a profile's run: the date of its tree; and the part is that of the one item on the path.
pub record Answers (s : List ℕ) (profile : Run) (d : Result DateFound ℕ) : Type 0 where
  pub date : date_in (tree_in s profile) ≡ date_told s d
  pub placed : Placed s profile d
