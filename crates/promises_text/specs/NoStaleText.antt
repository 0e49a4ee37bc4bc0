-- No stale text: the demand that the product began with, said for the whole screen. Whatever octets came, and whatever was in the output before, what is
-- shown is the text of this letter: line by line in reading order, each line under its own block, and nothing else. The question is our own, the
-- viewer's (answers, specs/Text).
use Rattle.std.specs.Prelude.{◌≡◌, List, [], ◌∷◌, ℕ, ◌+◌, ◌*◌, ◌≤◌, length, take, drop}
use Rattle.std.proofs.Math.Option.{some}
use Rattle.std.proofs.Math.ListN.{get_elem?}
use Rattle.std.proofs.Math.Seq.{slice}
use Rattle.elements.specs.declared.Edition.{Edition}
use Rattle.elements.specs.Judge.{joined_content, Element}
use Rattle.letters.specs.Letter.{letter, refusal, letter_in}
use Rattle.reading.specs.declared.Match.{Match}
use Rattle.reading.specs.declared.Side.{Side}
use Rattle.reading.specs.Match.{IsMatch}
use Rattle.text_lines.specs.Text.{Line, line_width, line_cells}
use Rattle.answers.specs.declared.TextRead.{TextRead}
use Rattle.answers.specs.Answers.{table_of, matches_in}
use Rattle.answers.specs.Text.{texts_in, text_refused, text_read, TextOutcome}
use Rattle.promises.specs.Demands.{Answered}

-- line k shows the match m: its five numbers stand in the lent lines, m is a match of this letter, and the octets from first to past of the output are the
-- content of m's own text unit
pub record ShowsMatch (edition : Edition) (side : Side) (s : List ℕ) (elements : List Element) (answer : TextRead) (lines_after out_after : List ℕ) (k : ℕ)
    (m : Match) : Type 0 where
  pub line : Line
  pub stands : slice (line_width * k) (line_width * k + line_width) lines_after ≡ line_cells line
  pub element : line.element ≡ m.element
  pub portion : line.portion ≡ m.portion
  pub unit : line.unit ≡ m.unit
  pub is_match : IsMatch side elements m
  pub order : line.first ≤ line.past
  pub inside : line.past ≤ answer.length
  pub text : slice line.first line.past out_after ≡ joined_content is_match.unit.content

-- of a reading that was answered
pub record OnScreen (edition : Edition) (side : Side) (s lines out : List ℕ) (answer : TextRead) (lines_after out_after : List ℕ) : Type 0 where
  pub headers : ℕ
  pub elements : List Element
  pub is_letter : letter_in edition s ≡ letter headers elements
  -- a line for each match of the side, in the list's order
  pub all_lines : answer.lines ≡ length (matches_in edition side s)
  pub each_line : (k : ℕ) (m : Match) → get_elem? (matches_in edition side s) k ≡ some m → ShowsMatch edition side s elements answer lines_after out_after k m
  -- the octets up to the length are the texts of these units one after another, and no others: they are told by the stream alone
  pub all_octets : take answer.length out_after ≡ texts_in edition side s
  pub no_longer : answer.length ≤ length s
  -- octets and lines past the counts stay
  pub past_octets : drop answer.length out_after ≡ drop answer.length out
  pub past_lines : drop (line_width * answer.lines) lines_after ≡ drop (line_width * answer.lines) lines

-- after a refusal
pub record Untouched (table lines out : List ℕ) (answer : TextRead) (table_after lines_after out_after : List ℕ) : Type 0 where
  pub no_lines : answer.lines ≡ 0
  pub no_octets : answer.length ≡ 0
  pub lines_kept : lines_after ≡ lines
  pub output_kept : out_after ≡ out
  pub no_elements : (answer.number ≡ 19 → ⊥) → answer.elements ≡ 0
  pub table_kept : (answer.number ≡ 19 → ⊥) → table_after ≡ table

-- what any program does that meets the contract of the question
pub record NoStaleText (edition : Edition) (side : Side) : Type 0 where
  pub shows : (s table lines out : List ℕ) (answer : TextRead) (table_after lines_after out_after : List ℕ)
      → TextOutcome edition side s table lines out answer table_after lines_after out_after → answer.number ≡ 0
      → OnScreen edition side s lines out answer lines_after out_after
  -- what was in the output, the table or the lines that were lent does not show: two readings of one stream show the same octets
  pub fresh : (s table lines out other-table other-lines other-out : List ℕ) (answer other : TextRead)
      (table_after lines_after out_after other-table_after other-lines_after other-out_after : List ℕ)
      → TextOutcome edition side s table lines out answer table_after lines_after out_after → answer.number ≡ 0
      → TextOutcome edition side s other-table other-lines other-out other other-table_after other-lines_after other-out_after → other.number ≡ 0
      → (answer.length ≡ other.length) × (take answer.length out_after ≡ take other.length other-out_after)
  -- what it may give, and where
  pub told : (s table : List ℕ) (room : ℕ) (out : List ℕ)
      → Answered s (16 ∷ 19 ∷ 22 ∷ []) (text_read edition side s table room out).number (text_read edition side s table room out).place
  -- a refusal leaves all that was lent as it was, and has no counts; but 19 leaves the finished table and keeps the element count
  pub refused : (s table lines out : List ℕ) (answer : TextRead) (table_after lines_after out_after : List ℕ)
      → TextOutcome edition side s table lines out answer table_after lines_after out_after → (answer.number ≡ 0 → ⊥)
      → Untouched table lines out answer table_after lines_after out_after
  pub finished : (s table lines out : List ℕ) (answer : TextRead) (table_after lines_after out_after : List ℕ)
      → TextOutcome edition side s table lines out answer table_after lines_after out_after → answer.number ≡ 19 → table_after ≡ table_of edition s table
  -- what rules 1 to 15 refuse is refused by that number at that place
  pub refused_alike : (s table : List ℕ) (room : ℕ) (out : List ℕ) (number place headers : ℕ) → letter_in edition s ≡ refusal number place headers
      → text_read edition side s table room out ≡ text_refused number place 0
  -- so that a caller knows what to lend: an output as long as the stream is never too short
  pub stream_enough : (s table : List ℕ) (room : ℕ) (out : List ℕ) → length s ≤ length out → (text_read edition side s table room out).number ≡ 22 → ⊥
