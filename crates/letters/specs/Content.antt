-- An element of a letter again by its row, as an item, and where its content stands, W-201: "The content is the pieces joined in order .. a 04
-- being one piece". Either is a part of the stream: the value of one item, or the run of the pieces, with their places.
use Rattle.std.specs.Prelude.{◌≡◌, cond, List, ℕ, zero, suc}
use Rattle.std.proofs.Math.Option.{some}
use Rattle.std.proofs.Math.ListN.{get_elem?}
use Rattle.octets.specs.Walk.{Items, no_items, item}
use Rattle.tree.specs.Tree.{tree_of}
use Rattle.runs.specs.declared.Run.{Run}
use Rattle.runs.specs.Runs.{items_of, tree_in, Fine}
use Rattle.contents.specs.declared.Span.{Span}
use Rattle.contents.specs.Search.{Value}
use Rattle.elements.specs.declared.Edition.{Edition}
use Rattle.elements.specs.declared.Holder.{Holder}
use Rattle.elements.specs.declared.Row.{Row}
use Rattle.elements.specs.Judge.{Content, single, in_pieces, content_of, Element, accepted, judge}
use Rattle.elements.specs.ElementRows.{content_octet, bounds_at, items_at, row_of}
use Rattle.elements.specs.Says.{Bounds}
use Rattle.judging.specs.declared.PlacedItem.{PlacedItem}
use Rattle.judging.specs.Judges.{shape_by, element_by}
use Rattle.letters.specs.declared.Held.{Held}
use Rattle.letters.specs.declared.Held.TheVariants.{Part, Pieces}
use Rattle.letters.specs.Letter.{items_of_stream, rows_in}

-- the items of a run from its item j on
abbrev pub from : (j : ℕ) → Items → Items
from zero items = items
from (suc j) no_items = no_items
from (suc j) (item at code first past inside after) = from j after

-- a row and an element of a letter are those of an item
pub record SaidBy (edition : Edition) (s : List ℕ) (placed : PlacedItem) (row : Row) (element : Element) : Type 0 where
  pub row_is : row ≡ row_of (shape_by edition placed.code) s placed.first placed.past (items_of s placed.inner)
  pub element_is : element ≡ element_by edition placed.code (tree_in s placed.inner)

-- the element in row j, as an item: it is item j of the stream, what is inside it can be met, and if the stream is a letter, row and element j are its
pub record ElementAt (edition : Edition) (s : List ℕ) (j : ℕ) (placed : PlacedItem) : Type 0 where
  pub fine : Fine s placed.inner
  pub first : ℕ
  pub past : ℕ
  pub after : Items
  pub stands : from j (items_of_stream s) ≡ item placed.first placed.code first past (items_of s placed.inner) after
  pub said : (elements : List Element) (row : Row) (element : Element) → judge edition (tree_of s) ≡ accepted elements
      → get_elem? (rows_in edition s) j ≡ some row → get_elem? elements j ≡ some element → SaidBy edition s placed row element

-- a holder as either
abbrev pub held_by : Holder → Held
held_by holder = cond holder.pieced (Pieces holder.pieces) (Part holder.value.first holder.value.past)

-- a content that is the value of one item, from first to past: those are the content fields of its row
pub record HeldWhole (s : List ℕ) (first past : ℕ) (fields : Span) (content : Content) : Type 0 where
  pub fields_are : fields ≡ record { first = first; past = past }
  pub value : Value
  pub content_is : content ≡ single value
  pub bounds : Bounds s fields value

-- a content in pieces, which are the items of a run: those inside what holds it
pub record HeldInPieces (s : List ℕ) (run : Run) (inside : Items) (content : Content) : Type 0 where
  pub fine : Fine s run
  pub items : items_of s run ≡ inside
  pub content_is : content ≡ in_pieces (tree_in s run)

abbrev pub HeldAs : (s : List ℕ) (fields : Span) (inside : Items) (content : Content) → Held → Type 0
HeldAs s fields inside content (Part first past) = HeldWhole s first past fields content
HeldAs s fields inside content (Pieces run) = HeldInPieces s run inside content

-- what holds the content of an item that is an element
abbrev pub HeldIn : Edition → (s : List ℕ) → PlacedItem → Held → Type 0
HeldIn edition s placed held =
    let contents = (shape_by edition placed.code).contents in
    let items = items_of s placed.inner in
    let run = tree_in s placed.inner in
    let octet = content_octet contents run in
    HeldAs s (bounds_at octet items) (items_at octet items) (content_of contents run) held

-- what holds the content of element j
pub record HoldsElement (edition : Edition) (s : List ℕ) (j : ℕ) (held : Held) : Type 0 where
  pub placed : PlacedItem
  pub at : ElementAt edition s j placed
  pub holds : HeldIn edition s placed held
