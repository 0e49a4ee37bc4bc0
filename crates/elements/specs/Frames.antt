-- What the code learns of the top of an element: whether its items stand as tabled, and where to look further.
use Rattle.std.specs.Prelude.{◌≡◌, true, false, List, ℕ, ◌<◌, Option, Some, None}
use Rattle.headers.specs.Head.{constructed}
use Rattle.octets.specs.Walk.{Items}
use Rattle.runs.specs.declared.Run.{Run}
use Rattle.tree.specs.Tree.{Tree}
use Rattle.runs.specs.Runs.{items_of, tree_in, definite_run, Fine}
use Rattle.contents.specs.declared.Part.{Part}
use Rattle.contents.specs.declared.Span.{Span}
use Rattle.contents.specs.First.{IsFirst, Lacks}
use Rattle.contents.specs.Search.{Value, first_value, first_run, bounds_of, items_in, no_span}
use Rattle.elements.specs.declared.Frame.{Frame}
use Rattle.elements.specs.declared.Holder.{Holder}
use Rattle.elements.specs.declared.Slots.{Slots}
use Rattle.elements.specs.Judge.{Content, single, in_pieces, content_of, type_of, type_fits}
use Rattle.elements.specs.Slots.{slot_body, slot_content, slot_ordered, slot_items, slot_octet}
use Rattle.elements.specs.ElementRows.{content_octet, bounds_at, items_at}
use Rattle.elements.specs.Shape.{Shape}
use Rattle.elements.specs.Says.{Placed, Bounds}

-- v is the pair of the first item of the run r with the octet, and bounds its value, if that item is primitive
pub record Bounding (s : List ℕ) (r : Run) (octet : ℕ) (v : Span) : Type 0 where
  pub pair : v ≡ bounds_of octet (items_of s r)
  pub placed : Placed s v
  pub value : constructed octet ≡ false → Bounds s v (first_value octet (tree_in s r))

-- inner is the run inside the first item of the run r with the octet, or an empty one
pub record Inner (s : List ℕ) (r : Run) (octet : ℕ) (inner : Run) : Type 0 where
  pub fine : Fine s inner
  pub items : items_of s inner ≡ items_in octet (items_of s r)
  pub tree : tree_in s inner ≡ first_run octet (tree_in s r)

-- body is the run of the items that name an element with the run r
pub record NamedIn (s : List ℕ) (shape : Slots) (r body : Run) : Type 0 where
  pub fine : Fine s body
  pub items : items_of s body ≡ slot_items shape (items_of s r)
  pub tree : tree_in s body ≡ slot_body shape (tree_in s r)

-- a content that is the value of an item: the holder bounds it
pub record HoldsWhole (s : List ℕ) (holder : Holder) (value : Value) : Type 0 where
  pub pieced : holder.pieced ≡ false
  pub bounds : Bounds s holder.value value

-- a content in pieces: the holder bounds the item's value, and has its run
pub record HoldsPieces (s : List ℕ) (holder : Holder) (run : Tree) : Type 0 where
  pub pieced : holder.pieced ≡ true
  pub there : 0 < holder.value.past
  pub tree : tree_in s holder.pieces ≡ run

abbrev pub HoldsContent : List ℕ → Holder → Content → Type 0
HoldsContent s holder (single value) = HoldsWhole s holder value
HoldsContent s holder (in_pieces run) = HoldsPieces s holder run

-- what holds a content, of which the row has the fields: an item with these items inside, which are the pieces if there are any
pub record Holding (s : List ℕ) (fields : Span) (inside : Items) (content : Content) (holder : Holder) : Type 0 where
  pub pair : holder.value ≡ fields
  pub placed : Placed s holder.value
  pub fine : Fine s holder.pieces
  pub held : HoldsContent s holder content
  pub items : holder.pieced ≡ true → items_of s holder.pieces ≡ inside

-- what holds the content of an element with the run r, by its shape, and by its slots
abbrev pub HoldingShape : (s : List ℕ) → Shape → Run → Holder → Type 0
HoldingShape s shape r holder =
    let contents = shape.contents in
    let octet = content_octet contents (tree_in s r) in
    Holding s (bounds_at octet (items_of s r)) (items_at octet (items_of s r)) (content_of contents (tree_in s r)) holder

abbrev pub HoldingSlots : (s : List ℕ) → Slots → Run → Holder → Type 0
HoldingSlots s shape r holder =
    let octet = slot_octet shape (tree_in s r) in
    Holding s (bounds_of octet (items_of s r)) (items_in octet (items_of s r)) (slot_content shape (tree_in s r)) holder

-- p is the first item of the run r with pieces; or, where there is none, the first with tiles
pub data PiecesFirst (s : List ℕ) (shape : Slots) (r : Run) (p : Part) : Type 0 where
  with_pieces : IsFirst s r shape.pieces p → PiecesFirst s shape r p
  with_tiles : Lacks s r shape.pieces → IsFirst s r shape.tiles.octet p → PiecesFirst s shape r p

-- nothing holds a content
abbrev pub no_holder : Holder
no_holder = record { value = no_span; pieced = false; pieces = definite_run 0 0 0 }

-- where to look in an element whose items stand as tabled: what names it, its object type and its content
pub record Framed (s : List ℕ) (shape : Slots) (r : Run) (frame : Frame) : Type 0 where
  pub ordered_is : slot_ordered shape (tree_in s r) ≡ true
  pub fine : Fine s frame.body
  pub items : items_of s frame.body ≡ slot_items shape (items_of s r)
  pub tree : tree_in s frame.body ≡ slot_body shape (tree_in s r)
  pub object : Bounding s r shape.object frame.object
  pub content : HoldingSlots s shape r frame.content

-- the top of an element: there is none, if its items do not stand as tabled
abbrev pub Frames : (s : List ℕ) → Slots → Run → Option Frame → Type 0
Frames s shape r (Some frame) = Framed s shape r frame
Frames s shape r None = slot_ordered shape (tree_in s r) ≡ false

-- 13, and "object type (255 if none)"
abbrev pub Types : (types : ℕ) → Value → Option ℕ → Type 0
Types types value (Some object) = (type_fits types value ≡ true) × (object ≡ type_of value)
Types types value None = type_fits types value ≡ false

-- an object type, if there is one, is one octet
abbrev pub OneOctet : Option ℕ → Type 0
OneOctet (Some object) = object < 256
OneOctet None = Unit {0}
