-- Entries as they are lent: six numbers an entry, one entry after another. "An incomplete last entry is not used", as of a table's rows.
use Rattle.std.specs.Prelude.{ℕ, zero, suc, ◌+◌, ◌*◌, ◌/◌, List, [], ◌∷◌, ◌++◌, map, length, get_or}
use Rattle.contents.specs.declared.Span.{Span}
use Rattle.making.specs.declared.Entry.{Entry}
use Rattle.making.specs.Entries.{Said, said_by}

-- the numbers of an entry: first and past of its identifier, of its portion and of its text
abbrev pub entry_width : ℕ
entry_width = 6

abbrev pub span_at : (numbers : List ℕ) → (at : ℕ) → Span
span_at numbers at = record { first = get_or numbers at 0; past = get_or numbers (at + 1) 0 }

-- entry k
abbrev pub entry_at : (numbers : List ℕ) → (k : ℕ) → Entry
entry_at numbers k = record {
  identifier = span_at numbers (k * entry_width);
  portion = span_at numbers (k * entry_width + 2);
  text = span_at numbers (k * entry_width + 4);
}

-- the first k entries
unfoldable pub entries_in : (numbers : List ℕ) → (k : ℕ) → List Entry
entries_in numbers zero = []
entries_in numbers (suc k) = entries_in numbers k ++ (entry_at numbers k ∷ [])

-- all of them
abbrev pub entries_of : (numbers : List ℕ) → List Entry
entries_of numbers = entries_in numbers (length numbers / entry_width)

-- what the first k say, and what all of them say
abbrev pub said_up_to : (buffer numbers : List ℕ) → (k : ℕ) → List Said
said_up_to buffer numbers k = map (said_by buffer) (entries_in numbers k)

abbrev pub said_in : (buffer numbers : List ℕ) → List Said
said_in buffer numbers = map (said_by buffer) (entries_of numbers)
