-- The matches of a side. Document 01, "Table, list, part, normal form": "A match on the layout side joins a kind 1 or 2, a place in its
-- portions and a unit, where the unit's layout identifier is the element's identifier, one space, the portion. The logical side takes kinds
-- 5 and 6 and the logical identifier." First the reading list; then what is promised of it, in definitions that look at no list: what a
-- match is, which of two stands first, and how many text units and portions there are. Over what the elements say: no places, no length
-- octets. The theorems are in proofs/.
use Rattle.std.specs.Prelude.{ℕ, suc, ◌<◌, ◌+◌, Bool, cond, false, ◌&&◌, true, List, [], ◌∷◌, ◌++◌, eqb, ◌≡◌, ◌⊎◌, length}
use Rattle.std.proofs.Math.Option.{some}
use Rattle.std.proofs.Math.ListN.{get_elem?}
use Rattle.headers.specs.Head.{is_in}
use Rattle.names.specs.Names.{same, space_byte}
use Rattle.contents.specs.Search.{Value, absent, octets}
use Rattle.elements.specs.Judge.{Element}
use Rattle.reading.specs.declared.Match.{Match}
use Rattle.reading.specs.declared.Side.{Side}
use Rattle.reading.specs.declared.Side.TheVariants.{Layout, Logical}

-- the kind of a text unit
abbrev pub unit_kind : ℕ
unit_kind = 3

-- "joins a kind 1 or 2"; "The logical side takes kinds 5 and 6"
abbrev pub kinds_of : Side → List ℕ
kinds_of Layout = 1 ∷ 2 ∷ []
kinds_of Logical = 5 ∷ 6 ∷ []

-- "the unit's layout identifier"; "and the logical identifier"
abbrev pub name_on : Side → Element → Value
name_on Layout unit = unit.identifier
name_on Logical unit = unit.logical

-- "is the element's identifier, one space, the portion"
abbrev pub spells : (whole identifier : Value) → (portion : List ℕ) → Bool
spells absent identifier portion = false
spells (octets whole) absent portion = false
spells (octets whole) (octets identifier) portion = same (identifier ++ space_byte ∷ portion) whole

-- whether an element, one of its portions and a unit are a match
unfoldable pub joins : Side → Element → (portion : List ℕ) → Element → Bool
joins side element portion unit =
    is_in element.kind (kinds_of side)
    && eqb unit.kind unit_kind
    && spells (name_on side unit) element.identifier portion

-- for each of a list, with its number from n
unfoldable pub for_each : {A B : Type 0} → (n : ℕ) → List A → (ℕ → A → List B) → List B
for_each n [] f = []
for_each n (x ∷ xs) f = f n x ++ for_each (suc n) xs f

abbrev pub only : {A : Type 0} → Bool → A → List A
only test x = cond test (x ∷ []) []

-- the matches of one portion of an element: with each unit in stream order
unfoldable pub portion_matches : Side → List Element → (e : ℕ) → Element → (p : ℕ) → List ℕ → List Match
portion_matches side elements e element p portion =
    for_each 0 elements (λ u unit. only (joins side element portion unit) (record { element = e; portion = p; unit = u }))

-- "in stream order and then portion order": the matches of one element, portion by portion
unfoldable pub element_matches : Side → List Element → (e : ℕ) → Element → List Match
element_matches side elements e element = for_each 0 element.portions (portion_matches side elements e element)

-- the reading list of a side
unfoldable pub matches : Side → List Element → List Match
matches side elements = for_each 0 elements (element_matches side elements)

-- an element of the side, one of its portions and a text unit, "where the unit's .. identifier is the element's identifier, one space, the portion"
pub record Joined (side : Side) (element : Element) (portion : List ℕ) (unit : Element) : Type 0 where
  pub on_side : is_in element.kind (kinds_of side) ≡ true
  pub of_unit : unit.kind ≡ unit_kind
  pub identifier : List ℕ
  pub named : element.identifier ≡ octets identifier
  pub spelt : name_on side unit ≡ octets (identifier ++ space_byte ∷ portion)

-- a record of "three numbers: element, portion place, unit, all from 0" is a match
pub record IsMatch (side : Side) (elements : List Element) (m : Match) : Type 0 where
  pub element : Element
  pub portion : List ℕ
  pub unit : Element
  pub element_there : get_elem? elements m.element ≡ some element
  pub portion_there : get_elem? element.portions m.portion ≡ some portion
  pub unit_there : get_elem? elements m.unit ≡ some unit
  pub joined : Joined side element portion unit

-- "in stream order and then portion order": one match stands before another
abbrev pub Before : Match → Match → Type 0
Before m n =
    (m.element < n.element)
    ⊎ ((m.element ≡ n.element) × ((m.portion < n.portion) ⊎ ((m.portion ≡ n.portion) × (m.unit < n.unit))))

-- how many text units there are
unfoldable pub units : List Element → ℕ
units [] = 0
units (element ∷ elements) = cond (eqb element.kind unit_kind) 1 0 + units elements

-- how many portions are listed on a side
unfoldable pub portions_on : Side → List Element → ℕ
portions_on side [] = 0
portions_on side (element ∷ elements) = cond (is_in element.kind (kinds_of side)) (length element.portions) 0 + portions_on side elements
