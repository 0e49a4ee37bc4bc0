-- Which portion of which element a text unit represents, by the rows and the index that are there: the unit's record of a side, found from the unit.
-- W-207.
use Rattle.std.specs.Prelude.{ℕ, suc, ◌≤◌, ◌≡◌, true, cond, List, [], ◌∷◌, length, Option, None, Some}
use Rattle.std.proofs.Math.Seq.{slice}
use Rattle.headers.specs.Head.{is_in}
use Rattle.names.specs.Names.{same}
use Rattle.runs.specs.Runs.{tree_in, Fine}
use Rattle.portions.specs.Portions.{most_portions, all_portions, values}
use Rattle.rows.specs.Columns.{kind_at}
use Rattle.elements.specs.Judge.{Element}
use Rattle.reading.specs.declared.Match.{Match}
use Rattle.reading.specs.declared.Side.{Side}
use Rattle.reading.specs.Match.{kinds_of, matches}
use Rattle.letters.specs.Telling.{RowsTell}
use Rattle.rows.specs.Columns.{portions_at}
use Rattle.order.specs.Represents.{◌∈◌}
use Rattle.owners.specs.declared.Owner.{Owner}

abbrev pub match_of : (element portion unit : ℕ) → Match
match_of e p u = record { element = e; portion = p; unit = u }

-- the owner of a unit: an element, and the place of one of its portions
abbrev pub of : (element portion : ℕ) → Option Owner
of e p = Some (record { row = e; portion = p })

-- the record of a unit on a side: there is one with this element and this portion, or there is none
abbrev pub OwnerIs : Side → List Element → (unit : ℕ) → Option Owner → Type 0
OwnerIs side elements unit (Some owner) = match_of owner.row owner.portion unit ∈ matches side elements
OwnerIs side elements unit None = (element portion : ℕ) → match_of element portion unit ∈ matches side elements → ⊥

-- of whatever elements the rows tell
abbrev pub OwnerAt : Side → (s rows : List ℕ) → (n unit : ℕ) → Option Owner → Type 0
OwnerAt side s rows n unit owner = (elements : List Element) → RowsTell s rows n elements → OwnerIs side elements unit owner

-- a row's portions
abbrev pub listed_at : (s rows : List ℕ) → (j : ℕ) → List (List ℕ)
listed_at s rows j = values (tree_in s (portions_at rows j))

-- the portions of a row can be met: they are no other items, and at most 64
pub record Meetable (s rows : List ℕ) (j : ℕ) : Type 0 where
  pub fine : Fine s (portions_at rows j)
  pub only_portions : all_portions (tree_in s (portions_at rows j)) ≡ true
  pub few : length (listed_at s rows j) ≤ most_portions

-- the first of these portions, from number n on, that has these octets
unfoldable pub owner_among : (row n : ℕ) → (portions : List (List ℕ)) → (bytes : List ℕ) → Option Owner
owner_among row n [] bytes = None
owner_among row n (portion ∷ portions) bytes = cond (same portion bytes) (of row n) (owner_among row (suc n) portions bytes)

-- the owner of a unit, by a row that has the unit's name before its last space, if that row is of the side
abbrev pub owner_by : Side → (s rows : List ℕ) → (row first past : ℕ) → Option Owner
owner_by side s rows row first past = cond (is_in (kind_at rows row) (kinds_of side)) (owner_among row 0 (listed_at s rows row) (slice first past s)) None
