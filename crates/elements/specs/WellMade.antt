-- What the code relies on in the slots of a shape, and what every shape of an edition is: an item with a value is primitive, one with a run is
-- constructed, and where items are free nothing is sought among them in order.
use Rattle.std.specs.Prelude.{◌≡◌, true, false, List, [], ◌∷◌, ◌⊎◌}
use Rattle.headers.specs.Head.{constructed}
use Rattle.elements.specs.declared.Slots.{Slots}
use Rattle.elements.specs.Shape.{ContentItem, whole, pieced}

pub record WellMade (shape : Slots) : Type 0 where
  -- where items stand in order and are looked at, one of them names the element
  pub within : shape.free ≡ false → shape.looked ≡ true → constructed shape.within ≡ true
  -- an element whose items are free is named among them, and has neither an object type nor content
  pub itself : shape.free ≡ true → shape.within ≡ 0
  pub no_object : shape.free ≡ true → shape.object ≡ 0
  pub no_content : shape.free ≡ true → shape.content ≡ 0
  pub no_pieces : shape.free ≡ true → shape.pieces ≡ 0
  pub no_tiles : shape.free ≡ true → shape.tiles.octet ≡ 0
  -- values are of primitive items; portions, pieces, tiles and a seal in pieces are in a constructed one
  pub identifier : constructed shape.identifier.octet ≡ false
  pub logical : constructed shape.logical ≡ false
  pub object : constructed shape.object ≡ false
  pub content : constructed shape.content ≡ false
  pub portions : (shape.portions ≡ 0) ⊎ (constructed shape.portions ≡ true)
  pub pieces : (shape.pieces ≡ 0) ⊎ (constructed shape.pieces ≡ true)
  pub tiles : (shape.tiles.octet ≡ 0) ⊎ (constructed shape.tiles.octet ≡ true)
  pub seal : (shape.seal ≡ 0) ⊎ (constructed shape.seal ≡ true)

-- among the items that may hold content, those with a value are primitive, and those with pieces are constructed
abbrev pub Formed : List ContentItem → Type 0
Formed [] = Unit {0}
Formed (whole octet ∷ others) = (constructed octet ≡ false) × Formed others
Formed (pieced octet ∷ others) = (constructed octet ≡ true) × Formed others
