-- The date without the rest (W-206): "walks the first element alone under rules 1 to 8, 10 and 11, with the end of the given bytes as limit, and then
-- answers as W-203". The walk of the first element is crate fronts' to say (specs/First).
use Rattle.std.specs.Prelude.{◌≡◌, ℕ, cond, List, ltb, length}
use Rattle.octets.specs.Walk.{End, ends, stops, stream_limit}
use Rattle.tree.specs.Tree.{Tree, empty, leaf, branch, plain}
use Rattle.fronts.specs.First.{walk_first}
use Rattle.dates.specs.Dates.{date_in}
use Rattle.elements.specs.declared.Edition.{Edition}
use Rattle.elements.specs.Shape.{shape_of}
use Rattle.elements.specs.Judge.{first_of, place_rules}
use Rattle.answers.specs.declared.Reason.{Reason}
use Rattle.answers.specs.declared.Dated.{Dated}
use Rattle.answers.specs.declared.FirstDated.{FirstDated}
use Rattle.answers.specs.Dates.{DateAnswer, date_after, profile_in, date_places, date_span, dated_at}

-- the tree of the first element, with nothing after it
abbrev pub first_tree : List ℕ → Tree
first_tree s = plain s (walk_first s).items

-- rules 10 and 11 of an element with no others before it, by its type field (9 can't refuse it); 11 "or the stream is empty"
abbrev pub first_rule : Edition → Tree → ℕ
first_rule edition empty = 11
first_rule edition (leaf type value after) = first_of (place_rules 0 (shape_of edition type).octet type)
first_rule edition (branch type inside after) = first_of (place_rules 0 (shape_of edition type).octet type)

-- the walk's refusal by 2 to 8, or else rules 10 and 11 at the element's place, 0
abbrev pub ruled_alone : Edition → Tree → End → Reason
ruled_alone edition element (stops number place) = record { number = number; place = place }
ruled_alone edition element (ends next) = record { number = first_rule edition element; place = 0 }

-- 1 comes first
unfoldable pub first_ruled : Edition → (s : List ℕ) → Reason
first_ruled edition s =
    cond (ltb stream_limit (length s)) (record { number = 1; place = 0 }) (ruled_alone edition (first_tree s) (walk_first s).how)

-- THE DATE of the first element: as of a whole letter, with these rules in place of 1 to 15
unfoldable pub first_date_of : Edition → (s : List ℕ) → DateAnswer
first_date_of edition s = date_after (first_ruled edition s) (date_in (profile_in (first_tree s)))

abbrev pub first_numbers : Edition → (s : List ℕ) → Dated
first_numbers edition s = dated_at (first_date_of edition s) (date_span (first_date_of edition s) (date_places (walk_first s).items))

-- "Its answer always notes that the remainder is unread."
abbrev pub with_unread : Dated → FirstDated
with_unread d =
    record {
      number = d.number;
      place = d.place;
      first = d.first;
      past = d.past;
      year = d.year;
      month = d.month;
      day = d.day;
      unread = 1;
    }

unfoldable pub first_dated : Edition → (s : List ℕ) → FirstDated
first_dated edition s = with_unread (first_numbers edition s)

-- the contract of the question
abbrev pub FirstDateOutcome : Edition → (s : List ℕ) → (answer : FirstDated) → Type 0
FirstDateOutcome edition s answer = answer ≡ first_dated edition s
