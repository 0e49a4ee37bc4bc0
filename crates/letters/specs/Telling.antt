-- What the rows of a letter tell of its elements. A function over rows says what it gives of all elements that the rows tell, and needs none of them
-- itself; that there are such elements, its caller knows by `LetterRows`. Of any edition.
use Rattle.std.specs.Prelude.{◌≡◌, true, cond, List, [], ℕ, length, get_or}
use Rattle.std.proofs.Math.Option.{some}
use Rattle.std.proofs.Math.ListN.{get_elem?}
use Rattle.runs.specs.Runs.{tree_in, Fine}
use Rattle.contents.specs.declared.Span.{Span}
use Rattle.contents.specs.Search.{Value, absent, octets}
use Rattle.portions.specs.Portions.{all_portions, values}
use Rattle.rows.specs.Columns.{identifier_column, logical_column, kind_at, span_at, there, portions_at}
use Rattle.elements.specs.Judge.{single, Element}
use Rattle.elements.specs.ElementRows.{bytes_in}
use Rattle.letters.specs.Apart.{Apart}

-- the identifier that a pair bounds; none is empty
abbrev pub name_in : List ℕ → Span → Value
name_in s pair = cond (there pair) (octets (bytes_in s pair)) absent

-- row j tells what its element says
pub record Tells (s rows : List ℕ) (j : ℕ) (element : Element) : Type 0 where
  pub kind : kind_at rows j ≡ element.kind
  pub identifier : element.identifier ≡ name_in s (span_at rows identifier_column j)
  pub logical : element.logical ≡ name_in s (span_at rows logical_column j)
  pub portions_fine : Fine s (portions_at rows j)
  pub only_portions : all_portions (tree_in s (portions_at rows j)) ≡ true
  pub portions : values (tree_in s (portions_at rows j)) ≡ element.portions

-- the first n rows tell of the elements of an accepted letter
pub record RowsTell (s rows : List ℕ) (n : ℕ) (elements : List Element) : Type 0 where
  pub apart : Apart elements
  pub counted : length elements ≡ n
  pub tells : (j : ℕ) (element : Element) → get_elem? elements j ≡ some element → Tells s rows j element

-- the element past the last
abbrev pub no_element : Element
no_element = record { kind = 0; object = 0; identifier = absent; logical = absent; portions = []; content = single absent }

abbrev pub element_at : List Element → (e : ℕ) → Element
element_at elements e = get_or elements e no_element
