-- The portions that are listed and not represented, and a text unit for each: what a front lacks of a whole.
use Rattle.std.specs.Prelude.{ℕ, not, List, [], ◌∷◌, ◌++◌, map}
use Rattle.names.specs.Names.{space_byte}
use Rattle.contents.specs.Search.{Value, absent, octets}
use Rattle.elements.specs.Judge.{Element, no_type, single}
use Rattle.reading.specs.declared.Side.{Side}
use Rattle.reading.specs.declared.Side.TheVariants.{Layout, Logical}
use Rattle.reading.specs.Match.{unit_kind}
use Rattle.order.specs.Represents.{side_of, is_represented, Listed, keep, everything}

-- what is listed and no element of these represents
unfoldable pub missing : List Element → List Listed
missing elements = keep (λ l. not (is_represented elements l.by l.portion)) (everything elements)

-- "is the element's identifier, one space, the portion"
abbrev pub label : Value → (portion : List ℕ) → Value
label absent portion = absent
label (octets bytes) portion = octets (bytes ++ space_byte ∷ portion)

-- a text unit with this name on a side, and nothing else
abbrev pub unit_named : Side → Value → Element
unit_named Layout name = record { kind = unit_kind; object = no_type; identifier = name; logical = absent; portions = []; content = single (octets []) }
unit_named Logical name = record { kind = unit_kind; object = no_type; identifier = absent; logical = name; portions = []; content = single (octets []) }

-- the text unit that represents a portion
unfoldable pub unit_for : Listed → Element
unit_for l = unit_named (side_of l.by) (label l.by.identifier l.portion)

-- what a front lacks
unfoldable pub lacking : List Element → List Element
lacking elements = map unit_for (missing elements)
