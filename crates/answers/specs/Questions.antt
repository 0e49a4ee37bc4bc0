-- What the work of each question must leave, once its stream is walked and judged: what is told, and what was lent at exit. A question that is
-- added later adds a case to each of these.
use Rattle.std.specs.Prelude.{◌≡◌, cond, List, [], ℕ, ◌*◌, ◌≤◌, eqb, length}
use Rattle.elements.specs.declared.Edition.{Edition}
use Rattle.letters.specs.Lent.{rows_needed}
use Rattle.reading.specs.declared.Side.{Side}
use Rattle.reading.specs.Records.{records}
use Rattle.order.specs.declared.Ordered.{Ordered}
use Rattle.order.specs.Computed.{order_in}
use Rattle.answers.specs.declared.Checked.{Checked}
use Rattle.answers.specs.declared.Listed.{Listed}
use Rattle.answers.specs.declared.Reason.{Reason}
use Rattle.answers.specs.declared.Found.{Found}
use Rattle.answers.specs.declared.Copied.{Copied}
use Rattle.answers.specs.declared.Related.{Related}
use Rattle.answers.specs.declared.TextRead.{TextRead}
use Rattle.answers.specs.declared.Sourced.{Sourced}
use Rattle.answers.specs.declared.Told.{Told}
use Rattle.answers.specs.declared.Question.{Question}
use Rattle.answers.specs.declared.Question.TheVariants.{Rules, Check, Content, Joined, List as Reading, Children, Order, Text, Sources}
use Rattle.answers.specs.Answers.{checked, checked_table, listed, listed_table, matches_in, ruled, refused_check, located, Stands, copied, copied_output}
use Rattle.answers.specs.Related.{related, related_table, children_onto}
use Rattle.answers.specs.Text.{text_read, shown_table, text_output}
use Rattle.answers.specs.TextSteps.{LinesNumbered}
use Rattle.answers.specs.Sources.{sourced, sourced_list}

-- an answer in the one form in which the work tells it: what a question does not ask for is 0
abbrev pub told_with : (number place elements listed length : ℕ) → Told
told_with number place elements listed length =
    record { number = number; place = place; headers = 0; elements = elements; listed = listed; length = length; first = 0; past = 0 }

abbrev pub reason_told : Reason → Told
reason_told r = told_with r.number r.place 0 0 0

abbrev pub copied_told : Copied → Told
copied_told r = told_with r.number r.place 0 0 r.length

abbrev pub listed_told : Listed → Told
listed_told r = told_with r.number r.place r.elements r.matches 0

abbrev pub related_told : Related → Told
related_told r = told_with r.number r.place r.elements r.children 0

abbrev pub ordered_told : Ordered → Told
ordered_told r = told_with r.number r.place 0 0 0

abbrev pub text_told : TextRead → Told
text_told r = told_with r.number r.place r.elements r.lines r.length

abbrev pub sourced_told : Sourced → Told
sourced_told r = told_with r.number r.place 0 r.lines r.sources

-- the check tells the headers besides, and a fetch the bounds
abbrev pub check_told : Checked → Told
check_told r = record { number = r.number; place = r.place; headers = r.headers; elements = r.elements; listed = 0; length = 0; first = 0; past = 0 }

abbrev pub located_told : Found → Told
located_told r = record { number = r.number; place = r.place; headers = 0; elements = 0; listed = 0; length = 0; first = r.first; past = r.past }

-- and the answer again, of what was told
abbrev pub check_of : Told → Checked
check_of t = record { number = t.number; place = t.place; headers = t.headers; elements = t.elements }

abbrev pub located_of : Told → Found
located_of t = record { number = t.number; place = t.place; first = t.first; past = t.past }

abbrev pub copied_of : Told → Copied
copied_of t = record { number = t.number; place = t.place; length = t.length }

abbrev pub listed_of : Told → Listed
listed_of t = record { number = t.number; place = t.place; elements = t.elements; matches = t.listed }

abbrev pub related_of : Told → Related
related_of t = record { number = t.number; place = t.place; elements = t.elements; children = t.listed }

abbrev pub ordered_of : Told → Ordered
ordered_of t = record { number = t.number; place = t.place }

abbrev pub text_read_of : Told → TextRead
text_read_of t = record { number = t.number; place = t.place; elements = t.elements; lines = t.listed; length = t.length }

abbrev pub sourced_of : Told → Sourced
sourced_of t = record { number = t.number; place = t.place; lines = t.listed; sources = t.length }

-- what is told of a stream, with this table and this buffer lent. The sources have no table: their list is lent in its place.
abbrev pub told_to : Edition → Question → (s table out : List ℕ) → Told
told_to edition Rules s table out = reason_told (ruled edition s)
told_to edition Check s table out = check_told (checked edition s table)
told_to edition (Content element) s table out = located_told (located edition s element)
told_to edition (Joined element) s table out = copied_told (copied edition s element out)
told_to edition (Reading side room) s table out = listed_told (listed edition side s table room)
told_to edition (Children row room) s table out = related_told (related edition s table row room)
told_to edition (Order class) s table out = ordered_told (order_in edition class s)
told_to edition (Text side room) s table out = text_told (text_read edition side s table room out)
told_to edition (Sources side) s table out = sourced_told (sourced edition side s table)

-- what is told of a stream that rules 1 to 15 refuse: the check alone is told how many headers passed
abbrev pub refused_told : Question → (number place headers : ℕ) → Told
refused_told Rules number place headers = reason_told (record { number = number; place = place })
refused_told Check number place headers = check_told (refused_check number place headers)
refused_told (Content element) number place headers = reason_told (record { number = number; place = place })
refused_told (Joined element) number place headers = reason_told (record { number = number; place = place })
refused_told (Reading side room) number place headers = reason_told (record { number = number; place = place })
refused_told (Children row room) number place headers = reason_told (record { number = number; place = place })
refused_told (Order class) number place headers = reason_told (record { number = number; place = place })
refused_told (Text side room) number place headers = reason_told (record { number = number; place = place })
refused_told (Sources side) number place headers = reason_told (record { number = number; place = place })

-- the table at exit
abbrev pub table_left : Edition → Question → (s table out : List ℕ) → List ℕ
table_left edition Rules s table out = table
table_left edition Check s table out = checked_table edition s table
table_left edition (Content element) s table out = table
table_left edition (Joined element) s table out = table
table_left edition (Reading side room) s table out = listed_table edition side s table room
table_left edition (Children row room) s table out = related_table edition s table row room
table_left edition (Order class) s table out = table
table_left edition (Text side room) s table out = shown_table edition side s table room out
table_left edition (Sources side) s table out = sourced_list edition side s table

-- the buffer at exit
abbrev pub out_left : Edition → Question → (s table out : List ℕ) → List ℕ
out_left edition Rules s table out = out
out_left edition Check s table out = out
out_left edition (Content element) s table out = out
out_left edition (Joined element) s table out = copied_output edition s element out
out_left edition (Reading side room) s table out = out
out_left edition (Children row room) s table out = out
out_left edition (Order class) s table out = out
out_left edition (Text side room) s table out = text_output edition side s table room out
out_left edition (Sources side) s table out = out

-- the reading list as numbers, three a record: as many as are told, all matches if the number is 0
pub record Numbered (edition : Edition) (side : Side) (s : List ℕ) (room number count : ℕ) (flat : List ℕ) : Type 0 where
  pub stored : records flat count ≡ cond (eqb number 0) (matches_in edition side s) []
  pub fits : 3 * count ≤ length flat
  pub enough : count ≤ room

-- what else a question leaves: of a list and of a whole reading, its numbers; of the children, the lent list itself
abbrev pub Beside : Edition → Question → (s : List ℕ) → Told → (flat flat_after : List ℕ) → Type 0
Beside edition Rules s told flat flat_after = Unit {0}
Beside edition Check s told flat flat_after = Unit {0}
Beside edition (Content element) s told flat flat_after = Stands edition s element told.first told.past
Beside edition (Joined element) s told flat flat_after = Unit {0}
Beside edition (Reading side room) s told flat flat_after = Numbered edition side s room told.number told.listed flat_after
Beside edition (Children row room) s told flat flat_after = flat_after ≡ children_onto edition s row told.number flat
Beside edition (Order class) s told flat flat_after = Unit {0}
Beside edition (Text side room) s told flat flat_after = LinesNumbered edition side s room told.number told.listed flat_after
Beside edition (Sources side) s told flat flat_after = Unit {0}

-- the contract of the work, and of all that leads to it
pub record Leaves (edition : Edition) (question : Question) (s table flat out : List ℕ) (told : Told) (table_after flat_after out_after : List ℕ) : Type 0 where
  pub answered : told ≡ told_to edition question s table out
  pub tabled : table_after ≡ table_left edition question s table out
  pub put : out_after ≡ out_left edition question s table out
  pub beside : Beside edition question s told flat flat_after

-- a reading list is made as numbers, so there is room for a record of each element, for the sources too, and of a whole reading for the end of each text
-- besides;
-- children are put to the lent list, which has the room that is told
abbrev pub Roomy : Question → (s : List ℕ) → (numbers : ℕ) → Type 0
Roomy Rules s numbers = Unit {0}
Roomy Check s numbers = Unit {0}
Roomy (Content element) s numbers = Unit {0}
Roomy (Joined element) s numbers = Unit {0}
Roomy (Reading side room) s numbers = 3 * rows_needed s ≤ numbers
Roomy (Children row room) s numbers = room ≤ numbers
Roomy (Order class) s numbers = Unit {0}
Roomy (Text side room) s numbers = 4 * rows_needed s ≤ numbers
Roomy (Sources side) s numbers = 3 * rows_needed s ≤ numbers
