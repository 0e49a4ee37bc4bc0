-- Whose child an element is (W-204): "The parent's identifier is the child's with its last space and digits taken off, among kinds 1 and 2 for
-- layout and 5 and 6 for logical." First the parent and the children of a row; then what is promised of them, in definitions that look for
-- nothing: what a parent is, and climbing from a row. Over what the elements say: no places, no length octets. The theorems are in proofs/.
use Rattle.std.specs.Prelude.{ℕ, zero, suc, ◌≤◌, Bool, cond, true, false, ◌&&◌, List, [], ◌∷◌, ◌++◌, ◌≡◌, eqb, length}
use Rattle.std.proofs.Math.Option.{Option, none, some}
use Rattle.std.proofs.Math.ListN.{get_elem?}
use Rattle.headers.specs.Head.{is_in}
use Rattle.names.specs.Names.{space_byte, all_digits}
use Rattle.contents.specs.Search.{Value, absent, octets}
use Rattle.elements.specs.Judge.{Element, shares}
use Rattle.reading.specs.declared.Side.{Side}
use Rattle.reading.specs.declared.Side.TheVariants.{Layout, Logical}
use Rattle.reading.specs.Match.{kinds_of, for_each, only}

-- a byte in front of a shorter identifier; where no space follows, the byte is the last space or there is none
abbrev pub in_front : (byte : ℕ) → Value → Value
in_front byte absent = cond (eqb byte space_byte) (octets []) absent
in_front byte (octets bytes) = octets (byte ∷ bytes)

-- "with its last space and digits taken off": all before the last space, absent if there is no space
unfoldable pub shorter : List ℕ → Value
shorter [] = absent
shorter (byte ∷ bytes) = in_front byte (shorter bytes)

abbrev pub shorter_of : Value → Value
shorter_of absent = absent
shorter_of (octets bytes) = shorter bytes

-- "among kinds 1 and 2 for layout and 5 and 6 for logical": the kinds among which an element of a kind has its parent, none for "other kinds"
unfoldable pub parent_kinds : (kind : ℕ) → List ℕ
parent_kinds kind = cond (is_in kind (kinds_of Layout)) (kinds_of Layout) (cond (is_in kind (kinds_of Logical)) (kinds_of Logical) [])

-- whether an element is the parent of another: it "carries the shorter one"
unfoldable pub is_parent_of : (child element : Element) → Bool
is_parent_of child element = is_in element.kind (parent_kinds child.kind) && shares (shorter_of child.identifier) element.identifier

-- one row further, where there is a row
abbrev pub further : Option ℕ → Option ℕ
further none = none
further (some row) = some (suc row)

-- the row of the first element that passes a test
unfoldable pub first_row : (Element → Bool) → List Element → Option ℕ
first_row test [] = none
first_row test (element ∷ elements) = cond (test element) (some 0) (further (first_row test elements))

abbrev pub parent_of : List Element → Option Element → Option ℕ
parent_of elements none = none
parent_of elements (some child) = first_row (is_parent_of child) elements

-- "the parent's row", if there is one
unfoldable pub parent : List Element → (row : ℕ) → Option ℕ
parent elements row = parent_of elements (get_elem? elements row)

-- "or 65,535 for other kinds and where there is no identifier, it has one group or nobody carries the shorter one"
abbrev pub no_parent : ℕ
no_parent = 65535

abbrev pub row_or_none : Option ℕ → ℕ
row_or_none none = no_parent
row_or_none (some row) = row

-- whether a parent is this row
abbrev pub is_row : Option ℕ → (row : ℕ) → Bool
is_row none row = false
is_row (some p) row = eqb p row

-- "the children of a row in stream order, as row numbers"
unfoldable pub children : List Element → (row : ℕ) → List ℕ
children elements row = for_each 0 elements (λ j element. only (is_row (parent elements j) row) j)

-- row p carries the identifier of row j without "its last space and digits", and is of the same side
pub record IsParent (elements : List Element) (j p : ℕ) : Type 0 where
  pub child : Element
  pub parent : Element
  pub child_there : get_elem? elements j ≡ some child
  pub parent_there : get_elem? elements p ≡ some parent
  pub side : Side
  pub child_on_side : is_in child.kind (kinds_of side) ≡ true
  pub parent_on_side : is_in parent.kind (kinds_of side) ≡ true
  pub shorter : List ℕ
  pub digits : List ℕ
  pub child_named : child.identifier ≡ octets (shorter ++ space_byte ∷ digits)
  pub only_digits : all_digits digits ≡ true
  pub some_digits : 1 ≤ length digits
  pub parent_named : parent.identifier ≡ octets shorter

-- one move up, from a row if there is one
abbrev pub up_from : List Element → Option ℕ → Option ℕ
up_from elements none = none
up_from elements (some row) = parent elements row

-- "Climbing from any row": the row after so many moves, if there are so many
unfoldable pub climb : List Element → (row moves : ℕ) → Option ℕ
climb elements row zero = some row
climb elements row (suc k) = up_from elements (climb elements row k)

-- "must end, in at most 32 moves"
abbrev pub most_moves : ℕ
most_moves = 32
