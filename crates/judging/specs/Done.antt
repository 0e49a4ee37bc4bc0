-- What the scratch holds while a stream is judged: the rows of the elements that are done. That their names can be looked up is said of the index that
-- the look-up is lent (`Filed`). Nobody but the code that lends the scratch sees it.
use Rattle.std.specs.Prelude.{◌≡◌, List, [], ◌∷◌, ◌++◌, ℕ, ◌*◌, length, take}
use Rattle.rows.specs.Rows.{scratch_width}
use Rattle.rows.specs.Columns.{identifier_column, logical_column, Bounded}
use Rattle.elements.specs.declared.Row.{Row}
use Rattle.elements.specs.Judge.{Element}
use Rattle.elements.specs.ElementRows.{numbers}
use Rattle.elements.specs.Says.{Says}

-- each row says what its element says
pub data Saying (s : List ℕ) : List Row → List Element → Type 0 where
  none : Saying s [] []
  more : {row : Row} {element : Element} {rows : List Row} {elements : List Element}
      → Saying s rows elements → Says s row element → Saying s (rows ++ (row ∷ [])) (elements ++ (element ∷ []))

-- the rows of the elements that are done are the first in the scratch, and the names that they bound lie in the stream
pub record DoneRows (s scratch : List ℕ) (n : ℕ) (table : List Row) (done : List Element) : Type 0 where
  pub counted : length done ≡ n
  pub written : take (n * scratch_width) scratch ≡ numbers table
  pub saying : Saying s table done
  pub identifiers : Bounded s scratch identifier_column n
  pub logicals : Bounded s scratch logical_column n
