-- The vectors: elements as the reader hands them on, and where each order fails, by the element's number; docs/ORDER.md speaks of some.
use Rattle.std.specs.Prelude.{ℕ, ◌+◌, List, [], ◌∷◌, Option, None, Some}
use Rattle.names.specs.Names.{space_byte}
use Rattle.contents.specs.Search.{Value, absent, octets}
use Rattle.elements.specs.Judge.{Element, no_type, single}

-- elements, and what is found of them by class A and by class B
pub record Example : Type 0 where
  pub a : Option ℕ
  pub b : Option ℕ
  pub elements : List Element

abbrev pub found : (a b : Option ℕ) → List Element → Example
found a b elements = record { a = a; b = b; elements = elements }

-- an identifier of digits
abbrev pub spelling : List ℕ → List ℕ
spelling [] = []
spelling (d ∷ []) = (48 + d) ∷ []
spelling (d ∷ e ∷ digits) = (48 + d) ∷ space_byte ∷ spelling (e ∷ digits)

abbrev pub name : List ℕ → Value
name digits = octets (spelling digits)

-- an element that is no text unit
abbrev pub lister : (kind : ℕ) → (identifier : Value) → (portions : List (List ℕ)) → Element
lister kind identifier portions =
    record { kind = kind; object = no_type; identifier = identifier; logical = absent; portions = portions; content = single absent }

-- an element with the identifier "a b" that lists portion 0; one that lists nothing; one that is not named
abbrev pub lists : (kind a b : ℕ) → Element
lists kind a b = lister kind (name (a ∷ b ∷ [])) (spelling (0 ∷ []) ∷ [])

abbrev pub bare : (kind : ℕ) → (digits : List ℕ) → Element
bare kind digits = lister kind (name digits) []

abbrev pub other : (kind : ℕ) → Element
other kind = lister kind absent []

-- a text unit
abbrev pub unit : (identifier logical : Value) → Element
unit identifier logical =
    record { kind = 3; object = no_type; identifier = identifier; logical = logical; portions = []; content = single (octets (0x78 ∷ [])) }

-- the text unit of portion 0 of the element "a b": by its layout identifier; by its logical one; and of two elements, by both
abbrev pub of_layout : (a b : ℕ) → Element
of_layout a b = unit (name (a ∷ b ∷ 0 ∷ [])) absent

abbrev pub of_logical : (a b : ℕ) → Element
of_logical a b = unit absent (name (a ∷ b ∷ 0 ∷ []))

abbrev pub of_both : (a b c d : ℕ) → Element
of_both a b c d = unit (name (a ∷ b ∷ 0 ∷ [])) (name (c ∷ d ∷ 0 ∷ []))

-- a block that lists the portions 0 and 1
abbrev pub two : Element
two = lister 2 (name (1 ∷ 0 ∷ [])) (spelling (0 ∷ []) ∷ spelling (1 ∷ []) ∷ [])

abbrev pub examples : List Example
examples =
    -- the profile alone
    found None None (other 0 ∷ [])
    -- a block, its unit
    ∷ found None None (other 0 ∷ lists 2 1 0 ∷ of_layout 1 0 ∷ [])
    -- two blocks, then two units
    ∷ found None (Some 2) (other 0 ∷ lists 2 1 0 ∷ lists 2 1 1 ∷ of_layout 1 0 ∷ of_layout 1 1 ∷ [])
    -- two blocks, each with its unit
    ∷ found (Some 3) None (other 0 ∷ lists 2 1 0 ∷ of_layout 1 0 ∷ lists 2 1 1 ∷ of_layout 1 1 ∷ [])
    -- a block, its unit missing
    ∷ found (Some 2) (Some 2) (other 0 ∷ lists 2 1 0 ∷ [])
    -- portions 0 and 1, units of 1 and then 0
    ∷ found (Some 2) None (other 0 ∷ two ∷ unit (name (1 ∷ 0 ∷ 1 ∷ [])) absent ∷ of_layout 1 0 ∷ [])
    -- portions 0 and 1, the unit of 1 alone
    ∷ found (Some 2) (Some 3) (other 0 ∷ two ∷ unit (name (1 ∷ 0 ∷ 1 ∷ [])) absent ∷ [])
    -- a unit that no element lists
    ∷ found (Some 2) (Some 2) (other 0 ∷ bare 2 (1 ∷ 0 ∷ []) ∷ unit (name (9 ∷ 9 ∷ [])) absent ∷ [])
    -- a unit without identifier after a block
    ∷ found (Some 2) (Some 2) (other 0 ∷ bare 2 (1 ∷ 0 ∷ []) ∷ unit absent absent ∷ [])
    -- a unit before its block
    ∷ found (Some 1) (Some 1) (other 0 ∷ of_layout 1 0 ∷ lists 2 1 0 ∷ [])
    -- an object, then a presentation style
    ∷ found (Some 2) (Some 2) (other 0 ∷ bare 2 (1 ∷ []) ∷ other 7 ∷ [])
    -- a class, a style, an object
    ∷ found None None (other 0 ∷ bare 1 (0 ∷ []) ∷ other 7 ∷ bare 2 (1 ∷ []) ∷ [])
    -- a class with its unit, a style, an object with its unit
    ∷ found None None (other 0 ∷ lists 1 0 0 ∷ of_layout 0 0 ∷ other 7 ∷ lists 2 1 0 ∷ of_layout 1 0 ∷ [])
    -- a class with a portion, a style, then the unit
    ∷ found (Some 2) (Some 2) (other 0 ∷ lists 1 0 0 ∷ other 7 ∷ of_layout 0 0 ∷ [])
    -- a layout style
    ∷ found None (Some 1) (other 0 ∷ other 8 ∷ [])
    -- a logical object
    ∷ found None (Some 1) (other 0 ∷ bare 6 (3 ∷ []) ∷ [])
    -- all groups of class A in 1988
    ∷ found None (Some 2)
    (other 0 ∷ lists 1 0 0 ∷ lists 5 2 0 ∷ of_layout 0 0 ∷ of_logical 2 0 ∷ other 7 ∷ other 8
    ∷ lists 2 1 0 ∷ lists 6 3 0 ∷ of_both 1 0 3 0 ∷ [])
    -- a logical class, a layout class
    ∷ found (Some 2) (Some 1) (other 0 ∷ bare 5 (2 ∷ []) ∷ bare 1 (0 ∷ []) ∷ [])
    -- a layout style, a presentation style
    ∷ found (Some 2) (Some 1) (other 0 ∷ other 8 ∷ other 7 ∷ [])
    -- a logical object, a layout object
    ∷ found (Some 2) (Some 1) (other 0 ∷ bare 6 (3 ∷ []) ∷ bare 2 (1 ∷ []) ∷ [])
    -- units in layout order, not in logical order
    ∷ found None (Some 2)
    (other 0 ∷ lists 2 1 0 ∷ lists 2 1 1 ∷ lists 6 3 0 ∷ lists 6 3 1 ∷ of_both 1 0 3 1 ∷ of_both 1 1 3 0 ∷ [])
    -- units in logical order, not in layout order
    ∷ found (Some 5) (Some 2)
    (other 0 ∷ lists 2 1 0 ∷ lists 2 1 1 ∷ lists 6 3 0 ∷ lists 6 3 1 ∷ of_both 1 1 3 0 ∷ of_both 1 0 3 1 ∷ [])
    -- no layout object, and units not in logical order
    ∷ found (Some 3) (Some 1) (other 0 ∷ lists 6 3 0 ∷ lists 6 3 1 ∷ of_logical 3 1 ∷ of_logical 3 0 ∷ [])
    -- a unit that is generic on one side and specific on the other
    ∷ found (Some 2) (Some 1) (other 0 ∷ lists 5 2 0 ∷ lists 2 1 0 ∷ of_both 1 0 2 0 ∷ [])
    -- an object that lists a portion and has no identifier
    ∷ found (Some 1) (Some 1) (other 0 ∷ lister 2 absent (spelling (0 ∷ []) ∷ []) ∷ [])
    -- siblings split
    ∷ found None None (other 0 ∷ bare 1 (0 ∷ 0 ∷ []) ∷ bare 1 (0 ∷ 0 ∷ 0 ∷ []) ∷ bare 1 (0 ∷ 1 ∷ []) ∷ [])
    -- a generic unit, then an object that lists it too: ranks ascend, and yet it begins no run
    ∷ found (Some 3) (Some 3) (other 0 ∷ lists 1 0 0 ∷ of_both 0 0 3 0 ∷ lists 6 3 0 ∷ [])
    -- the protected parts of 1993, by class A, and those of class B
    ∷ found None (Some 4) (other 0 ∷ bare 2 (1 ∷ []) ∷ other 9 ∷ other 10 ∷ other 11 ∷ other 12 ∷ [])
    ∷ found None None (other 0 ∷ bare 2 (1 ∷ []) ∷ other 9 ∷ other 10 ∷ other 12 ∷ [])
    -- an enciphered profile, then a sealed one
    ∷ found (Some 2) (Some 2) (other 0 ∷ other 10 ∷ other 9 ∷ [])
    ∷ []
