-- The content of element j of a letter stands where its element holds it, and the content fields of its row bound it.
use mathlib.Core.Path.{◌≡◌, refl, ap, sym, ◌∙◌, subst}
use mathlib.Core.Bool.{true}
use mathlib.Core.List.{List}
use mathlib.Core.Option.{some}
use Prim.Native.Nat.{ℕ, ◌+◌, ◌*◌, ◌<◌, ◌≤◌}
use native.Mathlib.Omega.{arith}
use lib.ListN.{length, get_elem?}
use lib.Seq.{slice, slice_empty}
use Rattle.octets.specs.Walk.{Items}
use Rattle.tree.specs.Tree.{tree_of}
use Rattle.runs.specs.Runs.{items_of, tree_in, Fine}
use Rattle.contents.specs.declared.Span.{Span}
use Rattle.contents.specs.Search.{Value, absent, octets}
use Rattle.rows.specs.Rows.{scratch_width}
use Rattle.rows.specs.Columns.{whole_column, first_at}
use Rattle.elements.specs.declared.Edition.{Edition}
use Rattle.elements.specs.declared.Holder.{Holder}
use Rattle.elements.specs.declared.Row.{Row}
use Rattle.elements.specs.Judge.{Content, single, in_pieces, content_of, joined_content, Element, element_of, accepted, judge}
use Rattle.elements.specs.ElementRows.{content_octet, bounds_at, items_at, row_of}
use Rattle.elements.specs.Says.{Bounds}
use Rattle.elements.specs.Frames.{HoldsContent, HoldingShape}
use Rattle.judging.specs.declared.PlacedItem.{PlacedItem}
use Rattle.judging.specs.Judges.{shape_by}
use Rattle.letters.specs.declared.Held.{Held}
use Rattle.letters.specs.Letter.{rows_in}
use Rattle.letters.specs.Scratch.{LetterRows}
use Rattle.letters.specs.Content.{ElementAt, held_by, HeldWhole, HeldAs, HoldsElement}
use Rattle.judging.proofs.Lists.{at-below}
use Rattle.judging.proofs.Rows.{first-at, saying-length}

-- a holder as where the content stands, if the fields are its pair
held-by : (s : List ℕ) (holder : Holder) (fields : Span) (inside : Items) → fields ≡ holder.value → Fine s holder.pieces
    → (holder.pieced ≡ true → items_of s holder.pieces ≡ inside)
    → (content : Content) → HoldsContent s holder content → HeldAs s fields inside content (held_by holder)
held-by s holder fields inside e fine items (single value) h =
    rw h.pieced (record { fields_are = e; value = value; content_is = refl; bounds = subst (λ (v : Span). Bounds s v value) (sym e) h.bounds })
held-by s holder fields inside e fine items (in_pieces run) h =
    let pieced = h.pieced in rw pieced (record { fine = fine; items = items pieced; content_is = ap in_pieces (sym h.tree) })

-- the item that an element is holds its content
pub holds-element : {edition : Edition} {s : List ℕ} {j : ℕ} {placed : PlacedItem} → ElementAt edition s j placed
    → {holder : Holder} → HoldingShape s (shape_by edition placed.code) placed.inner holder → HoldsElement edition s j (held_by holder)
holds-element {edition} {s} {j} {placed} at {holder} holding =
    let contents = (shape_by edition placed.code).contents in
    let items = items_of s placed.inner in
    let run = tree_in s placed.inner in
    let octet = content_octet contents run in
    record {
      placed = placed;
      at = at;
      holds = held-by s holder (bounds_at octet items) (items_at octet items) (sym holding.pair) holding.fine holding.items (content_of contents run)
          holding.held;
    }

-- the items inside what holds the content of element j
abbrev pub inside_of : {edition : Edition} {s : List ℕ} {j : ℕ} {held : Held} → HoldsElement edition s j held → Items
inside_of {edition} {s} h =
    let contents = (shape_by edition h.placed.code).contents in
    items_at (content_octet contents (tree_in s h.placed.inner)) (items_of s h.placed.inner)

-- if the stream is a letter, row and element j say what is held
pub held-element : {edition : Edition} {s : List ℕ} {j : ℕ} {held : Held} → (h : HoldsElement edition s j held)
    → (elements : List Element) (row : Row) (element : Element) → judge edition (tree_of s) ≡ accepted elements
    → get_elem? (rows_in edition s) j ≡ some row → get_elem? elements j ≡ some element → HeldAs s row.content (inside_of h) element.content held
unfolding element_of row_of
held-element {edition} {s} {j} {held} h elements row element judged stands there =
    let said = h.at.said elements row element judged stands there in
    let inside = inside_of h in
    let content = content_of (shape_by edition h.placed.code).contents (tree_in s h.placed.inner) in
    subst (λ (e : Element). HeldAs s row.content inside e.content held) (sym said.element_is)
    (subst (λ (r : Row). HeldAs s r.content inside content held) (sym said.row_is) h.holds)

-- row j of a letter is in the scratch, and tells where its element begins
pub record RowAt (edition : Edition) (s scratch : List ℕ) (j : ℕ) : Type 0 where
  pub within : j * scratch_width + scratch_width ≤ length scratch
  pub row : Row
  pub stands : get_elem? (rows_in edition s) j ≡ some row
  pub first : first_at scratch whole_column j ≡ row.whole.first

pub row_at : {edition : Edition} {s scratch : List ℕ} {count : ℕ} → LetterRows edition s scratch count → (j : ℕ) → j < count → RowAt edition s scratch j
row_at {edition} {s} letter j l =
    let holds = letter.holds in
    let (row, stands) = at-below (rows_in edition s) j (omega (arith, saying-length holds.saying, holds.counted)) in
    record { within = omega (arith, holds.identifiers.in_table); row = row; stands = stands; first = first-at holds j row stands whole_column (omega arith) }

-- the part of a content that is the value of one item is all of it, joined
pub part_joined : {s : List ℕ} {first past : ℕ} {fields : Span} {content : Content} → HeldWhole s first past fields content
    → slice first past s ≡ joined_content content
part_joined {s} {first} {past} {fields} h =
    ap (λ (v : Span). slice v.first v.past s) (sym h.fields_are) ∙ bounded h.value h.bounds ∙ ap joined_content (sym h.content_is)
  where
    bounded : (value : Value) → Bounds s fields value → slice fields.first fields.past s ≡ joined_content (single value)
    bounded absent b = ap (λ (v : Span). slice v.first v.past s) b ∙ slice_empty 0 s
    bounded (octets bytes) b = b.value
