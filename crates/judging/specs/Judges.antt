-- What the code learns of one element: the rules in three steps, whether an earlier row has its identifier, and its row.
use Rattle.std.specs.Prelude.{◌≡◌, Bool, true, false, List, [], ◌∷◌, ◌++◌, ℕ, ◌+◌, Result, Ok, Err, ⊤}
use Rattle.headers.specs.Head.{type_field}
use Rattle.tree.specs.Tree.{Tree, empty}
use Rattle.runs.specs.Runs.{items_of, tree_in}
use Rattle.names.specs.Hash.{hash}
use Rattle.rows.specs.Chains.{Has}
use Rattle.elements.specs.declared.Edition.{Edition}
use Rattle.elements.specs.declared.Row.{Row}
use Rattle.elements.specs.Shape.{Shape, shape_of}
use Rattle.elements.specs.Judge.{Element, element_of, twice, first_of, place_rules, refusal_of}
use Rattle.elements.specs.ShapeRefusal.{shape_refusal}
use Rattle.elements.specs.ElementRows.{row_of, bytes_in}
use Rattle.elements.specs.Says.{Says, RowPlaced}
use Rattle.elements.specs.Sees.{Refuses}
use Rattle.judging.specs.declared.Hashes.{Hashes}
use Rattle.judging.specs.declared.PlacedItem.{PlacedItem}
use Rattle.judging.specs.declared.Judged.{Judged}
use Rattle.judging.specs.Done.{DoneRows}

-- rules 9 to 11, which look at an element's number and code alone; `known` is the octet of its shape
unfoldable pub early_refusal : (n code known : ℕ) → ℕ
early_refusal n code known = first_of (place_rules n known (type_field code))

-- what is answered where a number refuses, or 0, which refuses nothing
abbrev pub Told : (number : ℕ) → Result ⊤ ℕ → Type 0
Told number (Ok passed) = number ≡ 0
Told number (Err refused) = Refuses number refused

-- whether one of the first n rows has these bytes at the column and is of the name space
abbrev pub Taken : (s scratch : List ℕ) (column n name_space : ℕ) (bytes : List ℕ) → Bool → Type 0
Taken s scratch column n name_space bytes true = (j : ℕ) × Has s scratch column n name_space bytes j
Taken s scratch column n name_space bytes false = (j : ℕ) → Has s scratch column n name_space bytes j → ⊥

-- the hashes of a row's identifier and logical identifier
abbrev pub hashes_of : List ℕ → Row → Hashes
hashes_of s row = record { identifier = hash (bytes_in s row.identifier); logical = hash (bytes_in s row.logical) }

-- the shape of an element by its code, and what the element says
abbrev pub shape_by : Edition → (code : ℕ) → Shape
shape_by edition code = shape_of edition (type_field code)

abbrev pub element_by : Edition → (code : ℕ) → Tree → Element
element_by edition code run = element_of (shape_by edition code) run

-- an element with no items that has this code is refused by none of 10 and 12 to 14
pub record MayBeBare (edition : Edition) (code : ℕ) : Type 0 where
  pub known : (shape_by edition code).octet ≡ code
  pub fits : shape_refusal (shape_by edition code) empty ≡ 0

-- an element that is refused by no rule: its row, which says what it says
pub record Passing (edition : Edition) (s : List ℕ) (done : List Element) (item : PlacedItem) (row : Row) (hashes : Hashes) : Type 0 where
  pub unrefused : refusal_of edition done (type_field item.code) (tree_in s item.inner) ≡ 0
  pub row_is : row ≡ row_of (shape_by edition item.code) s item.first item.past (items_of s item.inner)
  pub says : Says s row (element_by edition item.code (tree_in s item.inner))
  pub placed : RowPlaced s row
  pub hashed : hashes ≡ hashes_of s row

-- what rules 9 to 15 make of an item, after the elements that are done
abbrev pub Judges : Edition → (s : List ℕ) (done : List Element) → PlacedItem → Result Judged ℕ → Type 0
Judges edition s done item (Err number) = (refusal_of edition done (type_field item.code) (tree_in s item.inner) ≡ number) × (number ≡ 0 → ⊥)
Judges edition s done item (Ok judged) = Passing edition s done item judged.row judged.hashes

-- what is said of an item, whichever elements the scratch holds
abbrev pub JudgesAfter : Edition → (s scratch : List ℕ) (n : ℕ) → PlacedItem → Result Judged ℕ → Type 0
JudgesAfter edition s scratch n item judged =
    (table : List Row) (done : List Element) → DoneRows s scratch n table done → Judges edition s done item judged

-- whether rule 15 refuses an element with a row and these portions, whichever elements the scratch holds
abbrev pub TellsTwice : (s scratch : List ℕ) (n : ℕ) → Row → (portions : List (List ℕ)) → Bool → Type 0
TellsTwice s scratch n row portions b =
    (table : List Row) (done : List Element) (e : Element) → DoneRows s scratch n table done → Says s row e
    → portions ≡ e.portions → b ≡ twice done e

-- the scratch with one row more, whichever elements it held
abbrev pub Grows : (s scratch scratch' : List ℕ) (n : ℕ) → Row → Type 0
Grows s scratch scratch' n row =
    (table : List Row) (done : List Element) (e : Element) → DoneRows s scratch n table done → Says s row e
    → DoneRows s scratch' (n + 1) (table ++ row ∷ []) (done ++ e ∷ [])
