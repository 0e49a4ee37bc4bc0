-- For a crate that is built upon the check: what it may know of a stream that the check accepts. Its items can be met one after another (`fine`,
-- which `runs::meet` requires), there are as many as rows, and the table is the finished one. The number of a refusal is one of 1 to 16.
use mathlib.Core.Path.{◌≡◌, refl, ap, sym, ◌∙◌}
use mathlib.Core.Bool.{false}
use mathlib.Core.List.{List}
use Prim.Native.Nat.{ℕ, ◌≤◌}
use native.Mathlib.Omega.{arith}
use lib.ListN.{length}
use borrow.Author.Tests.{ltb-false}
use borrow.Table.Steps.{cases}
use Rattle.octets.specs.Walk.{deepest}
use Rattle.octets.proofs.RulesHold.{derives}
use Rattle.tree.specs.Tree.{tree_of}
use Rattle.runs.specs.Runs.{items_of, whole_stream, tops, Fine}
use Rattle.runs.proofs.Laws.{stream-fine}
use Rattle.elements.specs.declared.Edition.{Edition}
use Rattle.elements.specs.Judge.{Element, most_elements}
use Rattle.letters.specs.Letter.{Letter, letter, refusal, items_of_stream, letter_in}
use Rattle.letters.proofs.Apart.{accepted-apart}
use Rattle.answers.specs.declared.Checked.{Checked}
use Rattle.answers.specs.Table.{rows_lent, too_few_rows}
use Rattle.answers.specs.Answers.{table_of, checked_by, checked, checked_table}
use Rattle.answers.proofs.Small.{refusal-small}
use Rattle.letters.proofs.Standing.{rows-length}
use Rattle.letters.proofs.Letters.{letter-found}
use Rattle.promises.proofs.Demand2.{counted}
use Rattle.promises.proofs.Telling.{Proper, proper}

-- a stream that the check accepts
pub record Accepted (edition : Edition) (s table : List ℕ) : Type 0 where
  pub headers : ℕ
  pub elements : List Element
  pub judged : letter_in edition s ≡ letter headers elements
  pub enough : length elements ≤ rows_lent table
  pub told : checked edition s table ≡ record { number = 0; place = 0; headers = headers; elements = length elements }

module _ (edition : Edition) (s table : List ℕ) where
  accepted-if : (l : Letter) → letter_in edition s ≡ l → (checked_by l table).number ≡ 0 → Accepted edition s table
  unfolding checked
  accepted-if (refusal number place headers) e zero = absurd (omega (arith, (refusal-small edition s number place headers e).low))
  accepted-if (letter headers elements) e zero =
      cases (too_few_rows table elements)
      (λ t. let z : ◌≡◌ {A = ℕ} 16 0 = rw t at zero in absurd (omega arith))
      (λ t. record { headers = headers; elements = elements; judged = e; enough = ltb-false (rows_lent table) (length elements) t; told = rw (e, t) })

  pub accepts : (checked edition s table).number ≡ 0 → Accepted edition s table
  unfolding checked
  accepts zero = accepted-if (letter_in edition s) refl zero

  high-if : (l : Letter) → letter_in edition s ≡ l → (checked_by l table).number ≤ 16
  high-if (refusal number place headers) e = omega (arith, (refusal-small edition s number place headers e).high)
  high-if (letter headers elements) e = cases (too_few_rows table elements) (λ t. rw t (omega arith)) (λ t. rw t (omega arith))

  pub check-high : (checked edition s table).number ≤ 16
  unfolding checked
  check-high = high-if (letter_in edition s) refl

module _ {edition : Edition} {s table : List ℕ} (a : Accepted edition s table) where
  -- its items can be met, one after another,
  pub fine : Fine s (whole_stream s)
  fine = let f = letter-found edition s a.headers a.elements a.judged in stream-fine s f.at a.headers f.walked

  pub items-proper : Proper s deepest (items_of_stream s)
  items-proper = proper (derives deepest s 0 (length s) false fine.order) fine.whole (omega arith)

  -- as many as there are elements,
  pub as_many : tops (items_of s (whole_stream s)) ≡ length a.elements
  as_many = sym (rows-length edition s (items_of_stream s)) ∙ counted edition s a.headers a.elements a.judged

  pub few : length a.elements ≤ most_elements
  few = (accepted-apart edition (tree_of s) a.elements (letter-found edition s a.headers a.elements a.judged).judged).few

  -- and the table is finished
  pub finished : checked_table edition s table ≡ table_of edition s table
  unfolding checked_table
  finished = rw (ap (λ (c : Checked). c.number) a.told)
