-- What a unit's records tell in numbers: which element it is associated with on a side, and where its portion stands among those by which units are ordered.
-- Of whatever elements the rows tell.
use Rattle.std.specs.Prelude.{ℕ, ◌+◌, ◌-◌, ◌*◌, ◌<◌, ◌≤◌, ◌≡◌, ◌⊎◌, Bool, true, cond, ◌&&◌, List, [], ◌∷◌, eqb, leb, ltb, length, take, Option, None, Some}
use Rattle.headers.specs.Head.{is_in}
use Rattle.rows.specs.Columns.{kind_at}
use Rattle.elements.specs.Judge.{Element}
use Rattle.reading.specs.declared.Side.{Side}
use Rattle.reading.specs.Match.{kinds_of, matches}
use Rattle.letters.specs.Telling.{RowsTell, element_at}
use Rattle.order.specs.Represents.{◌∈◌}
use Rattle.order.specs.ClassA.{represents_some, listed_of}
use Rattle.order.specs.PassA.{count_if}
use Rattle.owners.specs.declared.Owner.{Owner}
use Rattle.owners.specs.Owner.{match_of, listed_at}
use Rattle.order_a.specs.declared.turns.Own.{Own}

-- the row of an owner is one of the rows
abbrev pub RowBelow : (n : ℕ) → Option Owner → Type 0
RowBelow n None = Unit {0}
RowBelow n (Some owner) = owner.row < n

-- what an owner tells of row u
abbrev pub own_of : (rows : List ℕ) → (n u : ℕ) → Option Owner → Own
own_of rows n u None = record { kind = 0; row = 0; portion = 0; later = n }
own_of rows n u (Some owner) =
    cond (ltb owner.row u) (record { kind = kind_at rows owner.row; row = owner.row; portion = owner.portion; later = n })
    (record { kind = 0; row = 0; portion = 0; later = owner.row })

-- what is so of element u and the elements before it, on a side
pub record OwnIs (side : Side) (elements : List Element) (n u : ℕ) (own : Own) : Type 0 where
  -- of which kind the element is
  pub kinds : (kind : ℕ) → is_in kind (kinds_of side) ≡ true → represents_some (kind ∷ []) (take u elements) (element_at elements u) ≡ eqb own.kind kind
  -- its record, if the element stands before it
  pub placed : is_in own.kind (kinds_of side) ≡ true
      → (own.row < u) × (match_of own.row own.portion u ∈ matches side elements) × ((element_at elements own.row).kind ≡ own.kind)
  -- and if not, where it stands
  pub no_later : (row portion : ℕ) → match_of row portion u ∈ matches side elements → (row < u) ⊎ (own.later ≤ row)
  pub later_is : (own.later ≡ n) ⊎ ((portion : ℕ) × (u < own.later) × (match_of own.later portion u ∈ matches side elements))

-- so it is of whatever elements the rows tell
pub record OwnAt (side : Side) (s rows : List ℕ) (n u : ℕ) (own : Own) : Type 0 where
  pub is : (elements : List Element) → RowsTell s rows n elements → OwnIs side elements n u own
  pub in_rows : own.row ≤ u

-- the objects by which units are ordered, and the one that a unit is associated with
unfoldable pub kind_for : (layouts : Bool) → ℕ
kind_for layouts = cond layouts 2 6

unfoldable pub own_for : (layouts : Bool) → (layout logical : Own) → Own
own_for layouts layout logical = cond layouts layout logical

-- the row up to which portions are counted for a unit: that of its element, if it is ordered and not behind; else as before
unfoldable pub row_for : (own : Own) → (kind row : ℕ) → ℕ
row_for own kind row = cond (eqb own.kind kind) (cond (ltb own.row row) row own.row) row

-- the turn of a unit has come: it is not ordered, or its portion is the next one, where so many are listed before those of its element
unfoldable pub turn_for : (own : Own) → (kind row base ordered : ℕ) → Bool
turn_for own kind row base ordered = cond (eqb own.kind kind) (eqb own.row row && (leb base ordered && eqb own.portion (ordered - base))) true

-- how many of the two that a unit is associated with are of their kind
unfoldable pub counts : (layout : Own) (a : ℕ) (logical : Own) (b : ℕ) → ℕ
counts layout a logical b = count_if (eqb layout.kind a) 1 + count_if (eqb logical.kind b) 1

-- what row j lists, if it is of a kind
unfoldable pub counts_in : (s rows : List ℕ) → (kind j : ℕ) → ℕ
counts_in s rows kind j = count_if (eqb (kind_at rows j) kind) (length (listed_at s rows j))

-- how many portions elements of a kind list before element j
abbrev pub before : (kind : ℕ) → List Element → (j : ℕ) → ℕ
before kind elements j = length (listed_of kind (take j elements))

-- portions were counted on from a row to another
pub record Reaches (s rows : List ℕ) (n kind row base to reached : ℕ) : Type 0 where
  pub small : reached ≤ 64 * to
  pub is : (elements : List Element) → RowsTell s rows n elements → base ≡ before kind elements row → reached ≡ before kind elements to
