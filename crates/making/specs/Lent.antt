-- Entries that were judged and fit, as the code that measures and writes relies on them: their parts lie in the buffer, and their names are
-- short.
use Rattle.std.specs.Prelude.{ℕ, zero, suc, ◌+◌, ◌-◌, ◌/◌, ◌<◌, ◌≤◌, List, length}
use Rattle.contents.specs.declared.Span.{Span}
use Rattle.making.specs.declared.Entry.{Entry}
use Rattle.making.specs.Flat.{entry_width, entry_at}
use Rattle.making.specs.Octets.{entry_size_by}

-- a part lies in the buffer
pub record PartLies (buffer : List ℕ) (part : Span) : Type 0 where
  pub order : part.first ≤ part.past
  pub inside : part.past ≤ length buffer

-- the octets of an identifier and a portion, and of a text
abbrev pub names_of : Entry → ℕ
names_of entry = (entry.identifier.past - entry.identifier.first) + (entry.portion.past - entry.portion.first)

abbrev pub text_of : Entry → ℕ
text_of entry = entry.text.past - entry.text.first

-- the parts of an entry lie in the buffer, and its unit identifier has 64 octets at most
pub record EntryLies (buffer : List ℕ) (entry : Entry) : Type 0 where
  pub identifier : PartLies buffer entry.identifier
  pub portion : PartLies buffer entry.portion
  pub text : PartLies buffer entry.text
  pub short : names_of entry ≤ 63

-- an entry by itself, whatever the buffer: each part ends no sooner than it begins, and its names are short
pub record Ordered (entry : Entry) : Type 0 where
  pub identifier : entry.identifier.first ≤ entry.identifier.past
  pub portion : entry.portion.first ≤ entry.portion.past
  pub text : entry.text.first ≤ entry.text.past
  pub short : names_of entry ≤ 63

-- all entries are so
abbrev pub AllLie : (buffer numbers : List ℕ) → Type 0
AllLie buffer numbers = (k : ℕ) → k < length numbers / entry_width → EntryLies buffer (entry_at numbers k)

abbrev pub AllOrdered : (numbers : List ℕ) → Type 0
AllOrdered numbers = (k : ℕ) → k < length numbers / entry_width → Ordered (entry_at numbers k)

-- how long the letter is that is made of the first k entries, by their bounds; and of all
unfoldable pub size_up_to : (numbers : List ℕ) → (k : ℕ) → ℕ
size_up_to numbers zero = 2
size_up_to numbers (suc k) = size_up_to numbers k + entry_size_by (names_of (entry_at numbers k)) (text_of (entry_at numbers k))

abbrev pub size_for : (numbers : List ℕ) → ℕ
size_for numbers = size_up_to numbers (length numbers / entry_width)
