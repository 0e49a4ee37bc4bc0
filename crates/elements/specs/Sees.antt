-- What the code learns of an element: rules 12 to 14, and its row.
use Rattle.std.specs.Prelude.{◌≡◌, Bool, not, ◌&&◌, List, [], ◌∷◌, ℕ, ◌*◌, ◌%◌, ◌≤◌, eqb, leb, length, take, Result, Ok, Err}
use Rattle.runs.specs.declared.Run.{Run}
use Rattle.octets.specs.Walk.{stream_limit}
use Rattle.runs.specs.Runs.{items_of, tree_in, Fine}
use Rattle.contents.specs.declared.Gathered.{Gathered}
use Rattle.contents.specs.declared.Sought.{Sought}
use Rattle.contents.specs.declared.Span.{Span}
use Rattle.contents.specs.Search.{Value}
use Rattle.portions.specs.declared.PortionList.{PortionList}
use Rattle.portions.specs.Bounds.{bounded, Inside}
use Rattle.portions.specs.Portions.{most_portions, all}
use Rattle.elements.specs.declared.Frame.{Frame}
use Rattle.elements.specs.declared.Row.{Row}
use Rattle.elements.specs.declared.Seen.{Seen}
use Rattle.elements.specs.declared.Slots.{Slots}
use Rattle.elements.specs.Judge.{Element, element_of, spelt}
use Rattle.elements.specs.ShapeRefusal.{shape_refusal}
use Rattle.elements.specs.ElementRows.{row_of}
use Rattle.elements.specs.Shape.{Shape}
use Rattle.elements.specs.Slots.{slot_element, slot_refusal, slot_row}
use Rattle.elements.specs.Says.{Placed, Says, RowPlaced}
use Rattle.elements.specs.WellMade.{WellMade}

-- at most one, and one if it is needed
unfoldable pub once : (needed : Bool) → (amount : ℕ) → Bool
once needed amount = not (needed && eqb amount 0) && leb amount 1

-- rule 12 by what was gathered, in an element whose items stand in order and whose portions have no other items among them
unfoldable pub tabled_by : (needed : Bool) → Gathered → Bool
tabled_by needed g =
    all (once needed g.identifiers
    ∷ leb g.logicals 1
    ∷ leb g.lists 1
    ∷ eqb g.barred 0
    ∷ [])

-- the portions' part of rule 14, by what was read: "misspelt, or a 65th portion"
abbrev pub list_spelt : PortionList → Bool
list_spelt listed = leb listed.count most_portions && not listed.misspelt

-- rule 14, by the identifiers and by what was read of the portions
abbrev pub spelt_by : (identifier logical : Value) → PortionList → Bool
spelt_by identifier logical listed = all (spelt identifier ∷ spelt logical ∷ list_spelt listed ∷ [])

-- the octets that matter in the run that names an element
abbrev pub sought_of : Slots → Sought
sought_of shape = record {
  identifier = shape.identifier.octet;
  logical = shape.logical;
  portions = shape.portions;
  never = shape.never;
  neither = shape.neither;
}

-- the row of an element, by what was found
abbrev pub row_by : Slots → Frame → (object : ℕ) → Gathered → (whole : Span) → Row
row_by shape frame object g whole = record {
  kind = shape.octet % 32;
  object = object;
  whole = whole;
  identifier = g.identifier;
  logical = g.logical;
  portions = g.portions;
  content = frame.content.value;
}

-- what is needed to look into an element
pub record Lookable (s : List ℕ) (shape : Slots) (frame : Frame) (whole : Span) : Type 0 where
  pub made : WellMade shape
  pub small : length s ≤ stream_limit
  pub fine : Fine s frame.body
  pub object : Placed s frame.object
  pub content : Placed s frame.content.value
  pub whole_placed : Placed s whole

-- an element with a row that rules 12 to 14 do not refuse, and the numbers that bound its portions
pub record Passes (s : List ℕ) (its : Row) (e : Element) (bounds : List ℕ) (seen : Seen) : Type 0 where
  pub row : seen.row ≡ its
  pub says : Says s seen.row e
  pub count : seen.count ≡ length e.portions
  pub few : seen.count ≤ most_portions
  pub inside : Inside s (take (2 * seen.count) bounds)
  pub stored : bounded s (take (2 * seen.count) bounds) ≡ e.portions

-- an element that no rule refuses: it has a row and says so much
pub record Accepts (s : List ℕ) (number : ℕ) (its : Row) (e : Element) (bounds : List ℕ) (seen : Seen) : Type 0 where
  pub unrefused : number ≡ 0
  pub placed : RowPlaced s seen.row
  pub passes : Passes s its e bounds seen

-- an element that is refused by a number
pub record Refuses (number refused : ℕ) : Type 0 where
  pub refusal : refused ≡ number
  pub there : refused ≡ 0 → ⊥

-- an element that is refused by a number, 0 for none, or has a row and says so much
abbrev pub Sees : (s : List ℕ) (number : ℕ) (its : Row) (e : Element) (bounds : List ℕ) → Result Seen ℕ → Type 0
Sees s number its e bounds (Ok seen) = Accepts s number its e bounds seen
Sees s number its e bounds (Err refused) = Refuses number refused

-- an element that stands from first to past and has the run r, by its shape, and by its slots
abbrev pub SeesShape : (s : List ℕ) → Shape → (r : Run) (first past : ℕ) (bounds : List ℕ) → Result Seen ℕ → Type 0
SeesShape s shape r first past bounds seen =
    Sees s (shape_refusal shape (tree_in s r)) (row_of shape s first past (items_of s r)) (element_of shape (tree_in s r)) bounds seen

abbrev pub SeesSlots : (s : List ℕ) → Slots → (r : Run) (first past : ℕ) (bounds : List ℕ) → Result Seen ℕ → Type 0
SeesSlots s shape r first past bounds seen =
    Sees s (slot_refusal shape (tree_in s r)) (slot_row shape s first past (items_of s r)) (slot_element shape (tree_in s r)) bounds seen
