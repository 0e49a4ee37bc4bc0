-- The starred examples of document 01, "Checked examples": one table, a stream with what the check and the normal form make of it. That they
-- do is one statement, `all_hold` (proofs/Examples). And a second table: of content in pieces (W-201), with the statement `joined-hold`.
use Rattle.std.specs.Prelude.{ℕ, List, [], ◌∷◌, take, replicate}
use Rattle.answers.specs.Table.{table_width}
use Rattle.elements.specs.declared.Edition.TheVariants.{Of1988}
use Rattle.answers.specs.Answers.{checked, written, written_output, copied, copied_output}

-- number, place and header count of the check, and the normal form that is written: none of a refused stream
pub record Example : Type 0 where
  pub stream : List ℕ
  pub number : ℕ
  pub place : ℕ
  pub headers : ℕ
  pub form : List ℕ

-- a table of one row, and an output of four octets
abbrev pub table : List ℕ
table = replicate table_width 0

abbrev pub out : List ℕ
out = replicate 4 0

-- what comes out of a stream
abbrev pub outcome : List ℕ → Example
outcome s = record {
  stream = s;
  number = (checked Of1988 s table).number;
  place = (checked Of1988 s table).place;
  headers = (checked Of1988 s table).headers;
  form = take (written Of1988 s out).length (written_output Of1988 s out);
}

abbrev pub accepts : List ℕ → (headers : ℕ) → (form : List ℕ) → Example
accepts stream headers form = record { stream = stream; number = 0; place = 0; headers = headers; form = form }

abbrev pub refuses : List ℕ → (number place headers : ℕ) → Example
refuses stream number place headers = record { stream = stream; number = number; place = place; headers = headers; form = [] }

abbrev pub examples : List Example
examples =
    refuses [] 11 0 0
    ∷ accepts (0xA0 ∷ 0x00 ∷ []) 1 (0xA0 ∷ 0x00 ∷ [])
    ∷ accepts (0xA0 ∷ 0x80 ∷ 0x00 ∷ 0x00 ∷ []) 1 (0xA0 ∷ 0x00 ∷ [])
    ∷ refuses (0xA0 ∷ 0x80 ∷ []) 7 2 1
    ∷ refuses (0xA0 ∷ 0x01 ∷ 0x00 ∷ []) 2 2 1
    ∷ refuses (0x80 ∷ 0x80 ∷ []) 6 0 0
    ∷ refuses (0xA0 ∷ 0x02 ∷ 0x05 ∷ []) 7 0 0
    ∷ refuses (0xA0 ∷ 0x02 ∷ 0x01 ∷ 0x00 ∷ []) 8 2 1
    ∷ refuses (0xA0 ∷ 0x00 ∷ 0xA0 ∷ 0x00 ∷ []) 11 2 2
    ∷ refuses (0xA0 ∷ 0x00 ∷ 0xA4 ∷ 0x00 ∷ []) 10 2 2
    ∷ []

-- number and place of the answer for one element, and the joined content that is copied: none if it is refused
pub record JoinedExample : Type 0 where
  pub stream : List ℕ
  pub asked : ℕ
  pub number : ℕ
  pub place : ℕ
  pub content : List ℕ

-- what comes out of a stream, with a buffer of four octets
abbrev pub joined_outcome : (stream : List ℕ) → (asked : ℕ) → JoinedExample
joined_outcome s asked = record {
  stream = s;
  asked = asked;
  number = (copied Of1988 s asked out).number;
  place = (copied Of1988 s asked out).place;
  content = take (copied Of1988 s asked out).length (copied_output Of1988 s asked out);
}

abbrev pub joins : List ℕ → (asked : ℕ) → (content : List ℕ) → JoinedExample
joins stream asked content = record { stream = stream; asked = asked; number = 0; place = 0; content = content }

abbrev pub joins_none : List ℕ → (asked number place : ℕ) → JoinedExample
joins_none stream asked number place = record { stream = stream; asked = asked; number = number; place = place; content = [] }

-- document 01's A000 A308 2406 040148 040169, of its text unit and of its profile; the same content in one 04; nested, empty and indefinite
-- pieces; another item among the pieces; and pieces of more than four octets in all
abbrev pub joined_examples : List JoinedExample
joined_examples =
    joins (0xA0 ∷ 0x00 ∷ 0xA3 ∷ 0x08 ∷ 0x24 ∷ 0x06 ∷ 0x04 ∷ 0x01 ∷ 0x48 ∷ 0x04 ∷ 0x01 ∷ 0x69 ∷ []) 1 (0x48 ∷ 0x69 ∷ [])
    ∷ joins_none (0xA0 ∷ 0x00 ∷ 0xA3 ∷ 0x08 ∷ 0x24 ∷ 0x06 ∷ 0x04 ∷ 0x01 ∷ 0x48 ∷ 0x04 ∷ 0x01 ∷ 0x69 ∷ []) 0 20 0
    ∷ joins (0xA0 ∷ 0x00 ∷ 0xA3 ∷ 0x04 ∷ 0x04 ∷ 0x02 ∷ 0x48 ∷ 0x69 ∷ []) 1 (0x48 ∷ 0x69 ∷ [])
    ∷ joins
    (0xA0 ∷ 0x00 ∷ 0xA3 ∷ 0x12 ∷ 0x24 ∷ 0x80 ∷ 0x04 ∷ 0x00 ∷ 0x24 ∷ 0x03 ∷ 0x04 ∷ 0x01 ∷ 0x48
    ∷ 0x24 ∷ 0x80 ∷ 0x04 ∷ 0x01 ∷ 0x69 ∷ 0x00 ∷ 0x00 ∷ 0x00 ∷ 0x00 ∷ [])
    1 (0x48 ∷ 0x69 ∷ [])
    ∷ joins_none (0xA0 ∷ 0x00 ∷ 0xA3 ∷ 0x04 ∷ 0x24 ∷ 0x02 ∷ 0x05 ∷ 0x00 ∷ []) 1 12 2
    ∷ joins_none (0xA0 ∷ 0x00 ∷ 0xA3 ∷ 0x0B ∷ 0x24 ∷ 0x09 ∷ 0x04 ∷ 0x03 ∷ 0x41 ∷ 0x42 ∷ 0x43 ∷ 0x04 ∷ 0x02 ∷ 0x44 ∷ 0x45 ∷ []) 1 22 0
    ∷ []
