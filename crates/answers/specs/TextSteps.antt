-- What the work behind the whole reading learns: its lines are numbers in scratch yet.
use Rattle.std.specs.Prelude.{◌≡◌, ℕ, ◌*◌, ◌≤◌, cond, List, [], eqb, length}
use Rattle.octets.specs.Walk.{stream_limit}
use Rattle.elements.specs.declared.Edition.{Edition}
use Rattle.reading.specs.declared.Side.{Side}
use Rattle.reading.specs.Records.{records}
use Rattle.text_lines.specs.Text.{texts_of, line_numbers}
use Rattle.text_lines.specs.Flat.{records_from, lines_left}
use Rattle.answers.specs.declared.Listed.{Listed}
use Rattle.answers.specs.declared.TextRead.{TextRead}
use Rattle.answers.specs.Table.{rows_lent}
use Rattle.answers.specs.Answers.{listed, matches_in}
use Rattle.answers.specs.Text.{text_in, lines_in, text_read, shown_table, text_output}

-- what is known of the reading list before the table is written: the answer with any table that has so many rows, and the matches as numbers, three a
-- record: as many as are answered, all if the number is 0
pub record FindsMatches (edition : Edition) (side : Side) (s : List ℕ) (lent room : ℕ) (answer : Listed) (flat : List ℕ) : Type 0 where
  pub answered : (table : List ℕ) → rows_lent table ≡ lent → answer ≡ listed edition side s table room
  pub stored : records flat answer.matches ≡ cond (eqb answer.number 0) (matches_in edition side s) []
  pub fits : 3 * answer.matches ≤ length flat
  pub enough : answer.matches ≤ room

-- there are so many matches in the numbers, and their texts are no longer than a stream may be
pub record Listing (edition : Edition) (s numbers : List ℕ) (count : ℕ) : Type 0 where
  pub room : 4 * count ≤ length numbers
  pub few : count ≤ 4096
  pub short : length (texts_of (text_in edition s) (records_from numbers 0 count)) ≤ stream_limit

-- the lines as numbers: as many as are told, all if the number is 0
pub record LinesNumbered (edition : Edition) (side : Side) (s : List ℕ) (room number count : ℕ) (numbers : List ℕ) : Type 0 where
  pub stored : lines_left numbers count 0 count 0 ≡ cond (eqb number 0) (line_numbers (lines_in edition side s)) []
  pub fits : 4 * count ≤ length numbers
  pub enough : count ≤ room

-- the whole reading with its lines as numbers
pub record TextsFlat (edition : Edition) (side : Side) (s table : List ℕ) (room : ℕ) (out : List ℕ) (answer : TextRead)
    (table_after numbers out_after : List ℕ) : Type 0 where
  pub answered : answer ≡ text_read edition side s table room out
  pub tabled : table_after ≡ shown_table edition side s table room out
  pub put : out_after ≡ text_output edition side s table room out
  pub lined : LinesNumbered edition side s room answer.number answer.lines numbers
