-- What a table row tells of its element. Document 01, "Table, list, part, normal form": "All pairs but the element's bound a value. ..
-- Absent is 0 and 0. Closing marks lie in the element and in no value."
use Rattle.std.specs.Prelude.{◌≡◌, true, List, ℕ, ◌≤◌, ◌<◌, length}
use Rattle.std.proofs.Math.Seq.{slice}
use Rattle.rows.specs.Columns.{portions_run}
use Rattle.runs.specs.Runs.{tree_in, Fine}
use Rattle.contents.specs.declared.Span.{Span}
use Rattle.contents.specs.Search.{Value, absent, octets, no_span}
use Rattle.portions.specs.Portions.{all_portions, values}
use Rattle.elements.specs.declared.Row.{Row}
use Rattle.elements.specs.Judge.{Content, single, in_pieces, Element, names_fit}

-- a pair that lies in the stream
pub record Placed (s : List ℕ) (v : Span) : Type 0 where
  pub order : v.first ≤ v.past
  pub inside : v.past ≤ length s

-- the pair of a value that is there: it may be empty, and never stands at 0
pub record Covers (s : List ℕ) (v : Span) (bytes : List ℕ) : Type 0 where
  pub placed : Placed s v
  pub there : 0 < v.past
  pub value : slice v.first v.past s ≡ bytes

-- a pair bounds a value, or the value is absent
abbrev pub Bounds : List ℕ → Span → Value → Type 0
Bounds s v absent = v ≡ no_span
Bounds s v (octets bytes) = Covers s v bytes

-- a pair bounds an identifier, which is never empty, or there is none
abbrev pub Names : List ℕ → Span → Value → Type 0
Names s v absent = v ≡ no_span
Names s v (octets bytes) = Covers s v bytes × (v.first < v.past)

-- a pair bounds a content: the value of one item; or the value of an item that holds pieces, which is there
abbrev pub Contains : List ℕ → Span → Content → Type 0
Contains s v (single value) = Bounds s v value
Contains s v (in_pieces run) = Placed s v × (0 < v.past)

-- a row says what its element says, which is well spelt
pub record Says (s : List ℕ) (row : Row) (e : Element) : Type 0 where
  pub kind : row.kind ≡ e.kind
  pub object : row.object ≡ e.object
  pub identifier : Names s row.identifier e.identifier
  pub logical : Names s row.logical e.logical
  pub portions_fine : Fine s (portions_run row.portions)
  pub only_portions : all_portions (tree_in s (portions_run row.portions)) ≡ true
  pub portions : values (tree_in s (portions_run row.portions)) ≡ e.portions
  pub content : Contains s row.content e.content
  pub spelt : names_fit e ≡ true

-- the numbers of a row are small: its pairs lie in the stream
pub record RowPlaced (s : List ℕ) (row : Row) : Type 0 where
  pub kind : row.kind < 32
  pub object : row.object < 256
  pub whole : Placed s row.whole
  pub identifier : Placed s row.identifier
  pub logical : Placed s row.logical
  pub portions : Placed s row.portions
  pub content : Placed s row.content
