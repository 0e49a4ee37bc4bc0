-- The places of the content of each element of a stream, as its row has the bounds of that content (crate elements, specs/ElementRows): "The content
-- fields of the row give the value of the 24" (W-201), and here stand the pieces in it.
use Rattle.std.specs.Prelude.{cond, List, [], ◌∷◌, ℕ, get_or}
use Rattle.std.proofs.Math.Option.{Option, none, some}
use Rattle.headers.specs.Head.{constructed, type_field}
use Rattle.octets.specs.Walk.{Items, no_items, item}
use Rattle.tree.specs.Tree.{plain}
use Rattle.contents.specs.declared.Span.{Span}
use Rattle.contents.specs.Search.{bounds_of, items_in}
use Rattle.elements.specs.declared.Edition.{Edition}
use Rattle.elements.specs.Shape.{Contents, shape_of}
use Rattle.elements.specs.ElementRows.{content_octet}
use Rattle.letters.specs.Letter.{items_of_stream}
use Rattle.sources.specs.Places.{piece_at, places_of}

-- the places of the first item with an octet: a primitive one is a piece, "a 04 being one piece", and a constructed one holds pieces
unfoldable pub places_with : (octet : ℕ) → Items → List Span
places_with octet items =
    let v = bounds_of octet items in
    cond (constructed octet) (places_of (items_in octet items)) (piece_at v.first v.past)

-- if one is looked for
abbrev pub places_at : Option ℕ → Items → List Span
places_at none items = []
places_at (some octet) items = places_with octet items

-- the places of the content of an element with these items: those of the item that holds it
unfoldable pub content_places : Contents → (s : List ℕ) → Items → List Span
content_places contents s items = places_at (content_octet contents (plain s items)) items

-- for each element of a run, in order
unfoldable pub places_of_each : Edition → (s : List ℕ) → Items → List (List Span)
places_of_each edition s no_items = []
places_of_each edition s (item at code first past inside after) =
    content_places (shape_of edition (type_field code)).contents s inside ∷ places_of_each edition s after

-- those of an element of a stream, by its number; an element that isn't there has none
unfoldable pub places_in : Edition → (s : List ℕ) → (element : ℕ) → List Span
places_in edition s element = get_or (places_of_each edition s (items_of_stream s)) element []
