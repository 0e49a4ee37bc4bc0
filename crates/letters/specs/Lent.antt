-- What is lent to the judge of a stream, and what it says when no element is left.
use Rattle.std.specs.Prelude.{cond, List, ℕ, ◌*◌, min, ◌≤◌, eqb, length, Result, Ok, Err}
use Rattle.headers.specs.declared.Refusal.{Refusal}
use Rattle.runs.specs.Runs.{tops}
use Rattle.portions.specs.Portions.{most_portions}
use Rattle.rows.specs.Rows.{scratch_width}
use Rattle.rows.specs.Index.{identifier_index, logical_index, HasLinks, Unused}
use Rattle.elements.specs.Judge.{most_elements}
use Rattle.letters.specs.Letter.{items_of_stream}

-- how many rows a stream can need: one for each element, but no more than can be accepted
abbrev pub rows_needed : List ℕ → ℕ
rows_needed s = min (tops (items_of_stream s)) most_elements

-- two indexes with no row in them, room for the rows and their links, and for the bounds of one element's portions
pub record Lent (s scratch index bounds : List ℕ) : Type 0 where
  pub identifiers : Unused (identifier_index index)
  pub logicals : Unused (logical_index index)
  pub rows : rows_needed s * scratch_width ≤ length scratch
  pub links : HasLinks index (rows_needed s)
  pub portions : 2 * most_portions ≤ length bounds

-- 11 ".. or the stream is empty", at 0; otherwise n elements are accepted
abbrev pub end_verdict : (n : ℕ) → Result ℕ Refusal
end_verdict n = cond (eqb n 0) (Err (record { number = 11; place = 0 })) (Ok n)
