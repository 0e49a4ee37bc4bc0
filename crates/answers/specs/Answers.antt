-- The public questions of the base, and the joined content (W-201): what each answers, and what it leaves in what it was lent. Those asked for later:
-- specs/Short, Related, Dates, FirstDates, Text; the order is in crate order (specs/Question). Document 01, "Numbers given back" and "Table, list,
-- part, normal form". A contract of crate odif says that the result and every lent buffer at exit are these definitions of the values at entry.
use Rattle.std.specs.Prelude.{◌≡◌, ℕ, ◌≤◌, cond, List, [], ◌∷◌, ◌++◌, eqb, ltb, length, drop}
use Rattle.std.proofs.Math.Option.{Option, none, some}
use Rattle.std.proofs.Math.ListN.{get_elem?}
use Rattle.std.proofs.Math.Seq.{slice}
use Rattle.headers.specs.Head.{is_in}
use Rattle.octets.specs.Walk.{stream_limit}
use Rattle.normal.specs.Normal.{normal_form}
use Rattle.contents.specs.declared.Span.{Span}
use Rattle.elements.specs.declared.Row.{Row}
use Rattle.elements.specs.declared.Edition.{Edition}
use Rattle.elements.specs.Judge.{Content, single, in_pieces, bytes_of, joined_content, Element}
use Rattle.contents.specs.Search.{no_span}
use Rattle.letters.specs.Letter.{Letter, letter, refusal, letter_in, rows_in}
use Rattle.reading.specs.declared.Match.{Match}
use Rattle.reading.specs.declared.Side.{Side}
use Rattle.reading.specs.Match.{unit_kind, matches}
use Rattle.answers.specs.declared.Checked.{Checked}
use Rattle.answers.specs.declared.Written.{Written}
use Rattle.answers.specs.declared.Listed.{Listed}
use Rattle.answers.specs.declared.Reason.{Reason}
use Rattle.answers.specs.declared.Found.{Found}
use Rattle.answers.specs.declared.Copied.{Copied}
use Rattle.answers.specs.Table.{table_numbers, too_few_rows}

-- values in front of what a lent list held: "Rows past the count keep what they had", "Records past the count keep theirs", "Output past it
-- stays"
abbrev pub onto : {A : Type 0} → List A → List A → List A
onto values lent = values ++ drop (length values) lent

-- what its elements say
abbrev pub elements_by : Letter → List Element
elements_by (refusal number place headers) = []
elements_by (letter headers elements) = elements

abbrev pub elements_in : Edition → List ℕ → List Element
elements_in edition s = elements_by (letter_in edition s)

-- the finished table
abbrev pub table_of : Edition → (s table : List ℕ) → List ℕ
table_of edition s table = onto (table_numbers (elements_in edition s) (rows_in edition s)) table

-- The rules alone, for a question that wants no more: the number and place of a refusal by 1 to 15, 0 and 0 of a letter.
abbrev pub ruled_by : Letter → Reason
ruled_by (refusal number place headers) = record { number = number; place = place }
ruled_by (letter headers elements) = record { number = 0; place = 0 }

unfoldable pub ruled : Edition → (s : List ℕ) → Reason
ruled edition s = ruled_by (letter_in edition s)

-- The check: "With every answer of the check comes a header count"; "With a refusal these are 0".
abbrev pub refused_check : (number place headers : ℕ) → Checked
refused_check number place headers = record { number = number; place = place; headers = headers; elements = 0 }

abbrev pub checked_by : Letter → (table : List ℕ) → Checked
checked_by (refusal number place headers) table = refused_check number place headers
checked_by (letter headers elements) table =
    cond (too_few_rows table elements) (refused_check 16 0 headers)
    (record { number = 0; place = 0; headers = headers; elements = length elements })

unfoldable pub checked : Edition → (s table : List ℕ) → Checked
checked edition s table = checked_by (letter_in edition s) table

-- "A refusal leaves the lent table .. untouched"
unfoldable pub checked_table : Edition → (s table : List ℕ) → List ℕ
checked_table edition s table = cond (eqb (checked edition s table).number 0) (table_of edition s table) table

-- the contract of the check: its answer, and the table at exit
pub record CheckOutcome (edition : Edition) (s table : List ℕ) (answer : Checked) (table_after : List ℕ) : Type 0 where
  pub answered : answer ≡ checked edition s table
  pub tabled : table_after ≡ checked_table edition s table

-- The normal form: 17 "normal form over 1,048,576 bytes", 18 "output shorter than the normal form"; "17 goes before 18".
abbrev pub written_by : Letter → (form out : List ℕ) → Written
written_by (refusal number place headers) form out = record { number = number; place = place; length = 0 }
written_by (letter headers elements) form out =
    cond (ltb stream_limit (length form)) (record { number = 17; place = 0; length = 0 })
    (cond (ltb (length out) (length form)) (record { number = 18; place = 0; length = 0 })
    (record { number = 0; place = 0; length = length form }))

unfoldable pub written : Edition → (s out : List ℕ) → Written
written edition s out = written_by (letter_in edition s) (normal_form s) out

-- "A refusal leaves the lent .. output untouched"
unfoldable pub written_output : Edition → (s out : List ℕ) → List ℕ
written_output edition s out = cond (eqb (written edition s out).number 0) (onto (normal_form s) out) out

-- the contract of the normal form: its answer, and the output at exit
pub record NormalOutcome (edition : Edition) (s out : List ℕ) (answer : Written) (out_after : List ℕ) : Type 0 where
  pub answered : answer ≡ written edition s out
  pub put : out_after ≡ written_output edition s out

-- The reading list: 16, then 19 "list shorter than the matches"; "19 keeps the element count".
abbrev pub listed_by : Letter → Side → (table : List ℕ) → (room : ℕ) → Listed
listed_by (refusal number place headers) side table room = record { number = number; place = place; elements = 0; matches = 0 }
listed_by (letter headers elements) side table room =
    cond (too_few_rows table elements) (record { number = 16; place = 0; elements = 0; matches = 0 })
    (cond (ltb room (length (matches side elements))) (record { number = 19; place = 0; elements = length elements; matches = 0 })
    (record { number = 0; place = 0; elements = length elements; matches = length (matches side elements) }))

-- the list that is lent has room for so many records
unfoldable pub listed : Edition → Side → (s table : List ℕ) → (room : ℕ) → Listed
listed edition side s table room = listed_by (letter_in edition s) side table room

-- "A refusal leaves the lent table .. untouched, except that 19 leaves the finished table"
unfoldable pub listed_table : Edition → Side → (s table : List ℕ) → (room : ℕ) → List ℕ
listed_table edition side s table room = cond (is_in (listed edition side s table room).number (0 ∷ 19 ∷ [])) (table_of edition s table) table

-- the matches of a side of a stream that is a letter
abbrev pub matches_by : Side → Letter → List Match
matches_by side (refusal number place headers) = []
matches_by side (letter headers elements) = matches side elements

abbrev pub matches_in : Edition → Side → (s : List ℕ) → List Match
matches_in edition side s = matches_by side (letter_in edition s)

-- "A refusal leaves the lent .. list .. untouched"
unfoldable pub listed_list : Edition → Side → (s table : List ℕ) → (list : List Match) → List Match
listed_list edition side s table list = cond (eqb (listed edition side s table (length list)).number 0) (onto (matches_in edition side s) list) list

-- the contract of the list: its answer, and the table and the list at exit
pub record ListOutcome (edition : Edition) (side : Side) (s table : List ℕ) (list : List Match) (answer : Listed) (table_after : List ℕ)
    (list_after : List Match) : Type 0 where
  pub answered : answer ≡ listed edition side s table (length list)
  pub tabled : table_after ≡ listed_table edition side s table (length list)
  pub filled : list_after ≡ listed_list edition side s table list

-- What is fetched of one text unit, with the number and place of a refusal.
pub record Fetched : Type 0 where
  pub number : ℕ
  pub place : ℕ
  pub part : List ℕ

abbrev pub handed : (part : List ℕ) → Fetched
handed part = record { number = 0; place = 0; part = part }

-- "a refused fetch gives an empty part"
abbrev pub withheld : (number place : ℕ) → Fetched
withheld number place = record { number = number; place = place; part = [] }

-- 20 "asked element is no text unit or doesn't exist"; of a text unit, what is wanted of its content
abbrev pub fetched_of : (wanted : Content → Fetched) → Option Element → Fetched
fetched_of wanted none = withheld 20 0
fetched_of wanted (some e) = cond (eqb e.kind unit_kind) (wanted e.content) (withheld 20 0)

abbrev pub fetched_by : (wanted : Content → Fetched) → Letter → (asked : ℕ) → Fetched
fetched_by wanted (refusal number place headers) asked = withheld number place
fetched_by wanted (letter headers elements) asked = fetched_of wanted (get_elem? elements asked)

-- The part: "The part question still serves 04"; 21 "part asked of content in pieces, after 20".
abbrev pub part_of : Content → Fetched
part_of (single value) = handed (bytes_of value)
part_of (in_pieces run) = withheld 21 0

unfoldable pub fetched : Edition → (s : List ℕ) → (asked : ℕ) → Fetched
fetched edition s asked = fetched_by part_of (letter_in edition s) asked

-- the contract of the part: the octets that are handed back
abbrev pub PartOutcome : Edition → (s : List ℕ) → (asked : ℕ) → (part : List ℕ) → Type 0
PartOutcome edition s asked part = part ≡ (fetched edition s asked).part

-- "number and place of that refusal, 0 if answered"
abbrev pub why_not : Edition → (s : List ℕ) → (asked : ℕ) → Reason
why_not edition s asked = record { number = (fetched edition s asked).number; place = (fetched edition s asked).place }

-- the contract of that question
abbrev pub WhyOutcome : Edition → (s : List ℕ) → (asked : ℕ) → (answer : Reason) → Type 0
WhyOutcome edition s asked answer = answer ≡ why_not edition s asked

-- The content for callers that take bounds: those of the content in the unit's row, and 0 and 0 with a refusal.
abbrev pub content_pair : Option Row → Span
content_pair none = no_span
content_pair (some row) = row.content

abbrev pub located_at : Fetched → Span → Found
located_at told pair = record { number = told.number; place = told.place; first = pair.first; past = pair.past }

unfoldable pub located : Edition → (s : List ℕ) → (asked : ℕ) → Found
located edition s asked =
    located_at (fetched edition s asked)
    (cond (eqb (fetched edition s asked).number 0) (content_pair (get_elem? (rows_in edition s) asked)) no_span)

-- the contract of the bounds
abbrev pub LocatedOutcome : Edition → (s : List ℕ) → (asked : ℕ) → (answer : Found) → Type 0
LocatedOutcome edition s asked answer = answer ≡ located edition s asked

-- They are where the part stands that the question in its other form hands back, in the stream: promises has that of every stream.
pub record Stands (edition : Edition) (s : List ℕ) (asked first past : ℕ) : Type 0 where
  pub part : slice first past s ≡ (fetched edition s asked).part
  pub order : first ≤ past
  pub inside : past ≤ length s

-- The joined content: "The content is the pieces joined in order", "a 04 being one piece".
abbrev pub all_of : Content → Fetched
all_of content = handed (joined_content content)

unfoldable pub joined_in : Edition → (s : List ℕ) → (asked : ℕ) → Fetched
joined_in edition s asked = fetched_by all_of (letter_in edition s) asked

-- It is copied "into a lent buffer": its length, "0 if refused"; 22 "copy buffer too short, after 20".
abbrev pub copied_from : Fetched → (out : List ℕ) → Copied
copied_from content out =
    cond (eqb content.number 0)
    (cond (ltb (length out) (length content.part)) (record { number = 22; place = 0; length = 0 })
    (record { number = 0; place = 0; length = length content.part }))
    (record { number = content.number; place = content.place; length = 0 })

unfoldable pub copied : Edition → (s : List ℕ) → (asked : ℕ) → (out : List ℕ) → Copied
copied edition s asked out = copied_from (joined_in edition s asked) out

-- "buffer untouched"; "bytes past it stay"
unfoldable pub copied_output : Edition → (s : List ℕ) → (asked : ℕ) → (out : List ℕ) → List ℕ
copied_output edition s asked out = cond (eqb (copied edition s asked out).number 0) (onto (joined_in edition s asked).part out) out

-- the contract of the joined content: its answer, and the buffer at exit
pub record JoinedOutcome (edition : Edition) (s : List ℕ) (asked : ℕ) (out : List ℕ) (answer : Copied) (out_after : List ℕ) : Type 0 where
  pub answered : answer ≡ copied edition s asked out
  pub put : out_after ≡ copied_output edition s asked out
