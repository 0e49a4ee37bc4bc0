-- The question that makes a letter: what it answers, and what it leaves in the output. W-208: "then 17, then 18; place is the entry's
-- number, 0 for the last two; output untouched".
use Rattle.std.specs.Prelude.{ℕ, ◌≡◌, cond, List, [], eqb, ltb, length, Result, Ok, Err}
use Rattle.octets.specs.Walk.{stream_limit}
use Rattle.answers.specs.declared.Reason.{Reason}
use Rattle.answers.specs.declared.Written.{Written}
use Rattle.answers.specs.Answers.{onto}
use Rattle.making.specs.declared.Entry.{Entry}
use Rattle.making.specs.Entries.{JudgedEntries, fit, refused_entry, judge_entries}
use Rattle.making.specs.Stream.{stream_of}

abbrev pub not_made : (number place : ℕ) → Written
not_made number place = record { number = number; place = place; length = 0 }

-- 17 a stream over 1,048,576 bytes, then 18 an output shorter than it
abbrev pub made_form : (form out : List ℕ) → Written
made_form form out =
    cond (ltb stream_limit (length form)) (not_made 17 0)
    (cond (ltb (length out) (length form)) (not_made 18 0)
    (record { number = 0; place = 0; length = length form }))

abbrev pub made_by : JudgedEntries → (out : List ℕ) → Written
made_by (refused_entry number entry) out = not_made number entry
made_by (fit said) out = made_form (stream_of said) out

unfoldable pub made_of : (buffer : List ℕ) → List Entry → (out : List ℕ) → Written
made_of buffer entries out = made_by (judge_entries buffer entries) out

-- the number and place of a refusal of entries, if one is refused
abbrev pub reason_of : JudgedEntries → Result (Unit {0}) Reason
reason_of (refused_entry number entry) = Err (record { number = number; place = entry })
reason_of (fit said) = Ok tt

-- the stream that is made of the entries, if none is refused
abbrev pub form_by : JudgedEntries → List ℕ
form_by (refused_entry number entry) = []
form_by (fit said) = stream_of said

abbrev pub form_of : (buffer : List ℕ) → List Entry → List ℕ
form_of buffer entries = form_by (judge_entries buffer entries)

-- "output untouched" on refusal; "Output past it stays"
unfoldable pub made_output : (buffer : List ℕ) → List Entry → (out : List ℕ) → List ℕ
made_output buffer entries out = cond (eqb (made_of buffer entries out).number 0) (onto (form_of buffer entries) out) out

-- the contract of the question: its answer, and the output at exit
pub record MakeOutcome (buffer : List ℕ) (entries : List Entry) (out : List ℕ) (answer : Written) (out_after : List ℕ) : Type 0 where
  pub answered : answer ≡ made_of buffer entries out
  pub put : out_after ≡ made_output buffer entries out
