-- What a row holds of its element. Document 01, "Table, list, part, normal form": "A table row is twelve numbers: kind .., object type .., then first
-- and past for the element, its identifier, the unit's logical identifier, the portions' value, the content. All pairs but the element's bound a
-- value. .. Absent is 0 and 0." The lent table's row has the parent's besides (answers/specs/Table).
use Rattle.std.specs.Prelude.{ℕ, zero, suc, cond, List, [], ◌∷◌, ◌++◌, length}
use Rattle.std.proofs.Math.Option.{Option, none, some}
use Rattle.std.proofs.Math.Seq.{slice}
use Rattle.headers.specs.Head.{type_field}
use Rattle.octets.specs.Walk.{Items, no_items, item, start_of}
use Rattle.tree.specs.Tree.{Tree, plain}
use Rattle.contents.specs.declared.Span.{Span}
use Rattle.contents.specs.Search.{items_in, bounds_of, no_span}
use Rattle.elements.specs.declared.Row.{Row}
use Rattle.elements.specs.declared.Edition.{Edition}
use Rattle.elements.specs.Shape.{ContentItem, Contents, profile, described, unit, style, protected, Shape, shape_of}
use Rattle.elements.specs.Judge.{none_of, octet_of, holders_of, element_of, identifier_octet, logical_octet, portions_octet}

-- the octets that a pair bounds
abbrev pub bytes_in : List ℕ → Span → List ℕ
bytes_in s v = slice v.first v.past s

-- the items that name an element: `body_of` of another file, with places
unfoldable pub body_in : Contents → Items → Items
body_in profile items = no_items
body_in (described needed types) items = items_in 0x31 items
body_in (unit needed tiled) items = items_in 0x31 items
body_in style items = items
body_in (protected enciphered) items = no_items

-- the octet of the item that holds the content: "The content fields of the row give the value of the 24" (W-201), or of the 30
abbrev pub holder_in : List ContentItem → Tree → Option ℕ
holder_in [] run = none
holder_in (holder ∷ others) run = cond (none_of (octet_of holder) run) (holder_in others run) (some (octet_of holder))

unfoldable pub content_octet : Contents → Tree → Option ℕ
content_octet contents run = holder_in (holders_of contents) run

-- the bounds of the first item with an octet, if one is looked for. "Absent is 0 and 0."
abbrev pub bounds_at : Option ℕ → Items → Span
bounds_at none items = no_span
bounds_at (some octet) items = bounds_of octet items

-- the items inside that item
abbrev pub items_at : Option ℕ → Items → Items
items_at none items = no_items
items_at (some octet) items = items_in octet items

-- the row of an element of a shape that stands from first to past and has these items
unfoldable pub row_of : Shape → List ℕ → (first past : ℕ) → Items → Row
row_of shape s first past items =
    let contents = shape.contents in
    let body = body_in contents items in
    let says = element_of shape (plain s items) in
    record {
      kind = says.kind;
      object = says.object;
      whole = record { first = first; past = past };
      identifier = bounds_at (identifier_octet contents) body;
      logical = bounds_at (logical_octet contents) body;
      portions = bounds_at (portions_octet contents) body;
      content = bounds_at (content_octet contents (plain s items)) items;
    }

-- "Elements meet end to end from 0 to the stream's length."
unfoldable pub rows_of : Edition → List ℕ → Items → List Row
rows_of edition s no_items = []
rows_of edition s (item at code first past inside after) =
    row_of (shape_of edition (type_field code)) s at (start_of (length s) after) inside ∷ rows_of edition s after

-- the twelve numbers of a row of the scratch
abbrev pub cells : Row → List ℕ
cells row =
    row.kind ∷ row.object
    ∷ row.whole.first ∷ row.whole.past
    ∷ row.identifier.first ∷ row.identifier.past
    ∷ row.logical.first ∷ row.logical.past
    ∷ row.portions.first ∷ row.portions.past
    ∷ row.content.first ∷ row.content.past ∷ []

-- the numbers of rows, one row after another
unfoldable pub numbers : List Row → List ℕ
numbers [] = []
numbers (row ∷ rows) = cells row ++ numbers rows

-- where the element with a number from 0 stands
unfoldable pub place_of : ℕ → Items → ℕ
place_of k no_items = 0
place_of zero (item at code first past inside after) = at
place_of (suc k) (item at code first past inside after) = place_of k after
