-- What the code learns of a row's parent.
use Rattle.std.specs.Prelude.{ℕ, ◌+◌, ◌*◌, ◌<◌, ◌≤◌, cond, List, ◌≡◌, length, Option, Some, None}
use Rattle.std.proofs.Math.Seq.{slice}
use Rattle.headers.specs.Head.{is_in}
use Rattle.rows.specs.Rows.{scratch_width}
use Rattle.rows.specs.Columns.{kind_at}
use Rattle.contents.specs.Search.{absent, octets}
use Rattle.elements.specs.Judge.{Element}
use Rattle.letters.specs.Telling.{RowsTell}
use Rattle.parents.specs.Parent.{shorter, parent_kinds, parent, no_parent, row_or_none}

-- the name space of classes and objects
abbrev pub object_space : ℕ
object_space = 1

-- a place in a part of the stream before which its shorter one stands
pub record CutAt (s : List ℕ) (first past at : ℕ) : Type 0 where
  pub after : first ≤ at
  pub before : at < past
  pub cuts : shorter (slice first past s) ≡ octets (slice first at s)

-- where the last space of a part of the stream stands, if it has one
abbrev pub LastSpace : (s : List ℕ) (first past : ℕ) → Option ℕ → Type 0
LastSpace s first past (Some at) = CutAt s first past at
LastSpace s first past None = shorter (slice first past s) ≡ absent

-- a row that was found is one of the rows
abbrev pub FoundIn : (rows : List ℕ) → Option ℕ → Type 0
FoundIn rows (Some row) = row * scratch_width + scratch_width ≤ length rows
FoundIn rows None = Unit {0}

-- the number of a row that was found, if it is of a kind that may be the parent of this one
abbrev pub on_side : (rows : List ℕ) → (kind : ℕ) → Option ℕ → ℕ
on_side rows kind (Some row) = cond (is_in (kind_at rows row) (parent_kinds kind)) row no_parent
on_side rows kind None = no_parent

-- the number of row j's parent, by the rows of an accepted letter
pub record ParentAt (s rows : List ℕ) (n j found : ℕ) : Type 0 where
  pub small : found ≤ no_parent
  pub is : (elements : List Element) → RowsTell s rows n elements → found ≡ row_or_none (parent elements j)
