-- The element table of document 01, "Element rules", as data: of each element its octet and its contents, and a list of them for each
-- edition. The edition of 1993 is W-213's, from source document 001; docs/EDITIONS.md has both tables side by side.
use Rattle.std.specs.Prelude.{ℕ, Bool, true, false, cond, List, [], ◌∷◌, ◌++◌}
use Rattle.contents.specs.Search.{is}
use Rattle.elements.specs.declared.Edition.{Edition}
use Rattle.elements.specs.declared.Edition.TheVariants.{Of1988, Of1993}

-- An item that may hold content: its value is the content, or it holds the content in pieces.
pub data ContentItem : Type 0 where
  whole : (octet : ℕ) → ContentItem
  pieced : (octet : ℕ) → ContentItem

-- What an element contains.
pub data Contents : Type 0 where
  -- "document profile: free"
  profile : Contents
  -- A class, of which the items are needed: "02, then 31; 41 required in the 31". Or an object: "02 or nothing, then 31 or nothing".
  -- "The 02 has one value octet", which is one of so many.
  described : (needed : Bool) (types : ℕ) → Contents
  -- "text unit: 31 or nothing, then" one item that may hold content, which is needed or not, and may be tiled or not
  unit : (needed tiled : Bool) → Contents
  -- "presentation style, layout style: exactly one 45, other items free"
  style : Contents
  -- a protected part (7.15 of 1993): 47, then a bit string; or 47, then an octet string, which is enciphered information
  protected : (enciphered : Bool) → Contents

pub record Shape : Type 0 where
  pub octet : ℕ
  pub contents : Contents

abbrev pub entry : (octet : ℕ) → Contents → Shape
entry octet contents = record { octet = octet; contents = contents }

-- the shape of no element: no item has octet 0
abbrev pub no_shape : Shape
no_shape = entry 0 profile

abbrev pub Shapes : Type 0
Shapes = List Shape

-- "0 to 4 for layout, 0 to 2 for logical"
abbrev pub layout_types : ℕ
layout_types = 5

abbrev pub logical_types : ℕ
logical_types = 3

-- an octet string: "24 holding 04 and 24 items down to the level limit" (W-201); "Content is primitive 04"
abbrev pub octet_string : List ContentItem
octet_string = pieced 0x24 ∷ whole 0x04 ∷ []

-- in 1993 content may besides be tiled: 30, "SEQUENCE OF OCTET STRING" (7.13)
abbrev pub octet_string_or_tiles : List ContentItem
octet_string_or_tiles = pieced 0x24 ∷ pieced 0x30 ∷ whole 0x04 ∷ []

-- the elements of 1988
abbrev pub shapes1988 : Shapes
shapes1988 =
    entry 0xA0 profile
    ∷ entry 0xA1 (described true layout_types)
    ∷ entry 0xA2 (described false layout_types)
    ∷ entry 0xA3 (unit true false)
    ∷ entry 0xA5 (described true logical_types)
    ∷ entry 0xA6 (described false logical_types)
    ∷ entry 0xA7 style
    ∷ entry 0xA8 style
    ∷ []

-- what 1993 has of its own: a text unit may have no content, or tiles, and there are a sealed profile, an enciphered profile, and body parts
-- that were enciphered before or after the layout (7.6, 7.13, 7.15)
abbrev pub added1993 : Shapes
added1993 =
    entry 0xA3 (unit false true)
    ∷ entry 0xA9 (protected false)
    ∷ entry 0xAA (protected true)
    ∷ entry 0xAB (protected true)
    ∷ entry 0xAC (protected true)
    ∷ []

-- the elements of 1993: those, and the others as in 1988
abbrev pub shapes1993 : Shapes
shapes1993 = added1993 ++ shapes1988

-- the shapes that an edition has
abbrev pub shapes_of : Edition → Shapes
shapes_of Of1988 = shapes1988
shapes_of Of1993 = shapes1993

-- the shape of an element by its type field, among shapes and in an edition
abbrev pub shape_in : Shapes → (type : List ℕ) → Shape
shape_in [] type = no_shape
shape_in (shape ∷ shapes) type = cond (is shape.octet type) shape (shape_in shapes type)

unfoldable pub shape_of : Edition → (type : List ℕ) → Shape
shape_of edition type = shape_in (shapes_of edition) type
