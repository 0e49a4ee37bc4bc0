-- What the normal form keeps, said row by row. It follows from the first page: the normal form is accepted with the same tree and elements
-- (`normal_accepted`, `normal_tree`), and its rows tell what they say (`rows_tell`).
use Rattle.std.specs.Prelude.{◌≡◌, ◌↔◌, List, ℕ, ◌≤◌, length}
use Rattle.std.proofs.Math.Option.{some}
use Rattle.std.proofs.Math.ListN.{get_elem?}
use Rattle.octets.specs.Walk.{stream_limit}
use Rattle.tree.specs.Tree.{Codes}
use Rattle.normal.specs.Normal.{normal_form}
use Rattle.contents.specs.declared.Span.{Span}
use Rattle.elements.specs.ElementRows.{bytes_in}
use Rattle.contents.specs.Search.{no_span}
use Rattle.elements.specs.declared.Row.{Row}
use Rattle.elements.specs.declared.Edition.{Edition}
use Rattle.elements.specs.Judge.{Content, single, in_pieces, Element}
use Rattle.reading.specs.declared.Side.{Side}
use Rattle.letters.specs.Letter.{letter, letter_in, rows_in}
use Rattle.answers.specs.Answers.{matches_in, joined_in}
use Rattle.promises.specs.Demands.{piece_levels, portion_items}

-- two pairs of two streams: the same octets, and absent in both or in neither
pub record SamePair (s : List ℕ) (pair : Span) (t : List ℕ) (other : Span) : Type 0 where
  pub bytes : bytes_in s pair ≡ bytes_in t other
  pub absent : (pair ≡ no_span) ↔ (other ≡ no_span)

-- two contents of one element: the same octets; or, if it is in pieces, octets that code the same pieces
abbrev pub SameContent : Content → (s : List ℕ) → Span → (t : List ℕ) → Span → Type 0
SameContent (single value) s pair t other = SamePair s pair t other
SameContent (in_pieces run) s pair t other = Codes piece_levels run (bytes_in s pair) × Codes piece_levels run (bytes_in t other)

-- two rows of two streams, for one element, with the same kind, type, identifiers and content, and with octets that code the same portions
pub record SameRow (element : Element) (s : List ℕ) (row : Row) (t : List ℕ) (other : Row) : Type 0 where
  pub kind : row.kind ≡ other.kind
  pub object : row.object ≡ other.object
  pub identifier : SamePair s row.identifier t other.identifier
  pub logical : SamePair s row.logical t other.logical
  pub portions : Codes 1 (portion_items element.portions) (bytes_in s row.portions)
      × Codes 1 (portion_items element.portions) (bytes_in t other.portions)
  pub no_portions : (row.portions ≡ no_span) ↔ (other.portions ≡ no_span)
  pub content : SameContent element.content s row.content t other.content

-- of a letter whose normal form is within the limit
pub record Kept (edition : Edition) (s : List ℕ) (elements : List Element) : Type 0 where
  pub rows : (j : ℕ) (element : Element) (row other : Row) → get_elem? elements j ≡ some element
      → get_elem? (rows_in edition s) j ≡ some row → get_elem? (rows_in edition (normal_form s)) j ≡ some other → SameRow element s row (normal_form s) other
  -- "Normal form keeps the pieces": unit by unit its joined content is the same
  pub joined : (j : ℕ) → joined_in edition (normal_form s) j ≡ joined_in edition s j
  -- and each side has the same reading list
  pub list : (side : Side) → matches_in edition side (normal_form s) ≡ matches_in edition side s

-- of every letter
abbrev pub KeepsLetters : Edition → Type 0
KeepsLetters edition = (s : List ℕ) (headers : ℕ) (elements : List Element) → letter_in edition s ≡ letter headers elements → length (normal_form s) ≤ stream_limit
    → Kept edition s elements
