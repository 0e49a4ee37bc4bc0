-- The check's answer and table, case by case: what the stream is decides both.
use mathlib.Core.Path.{◌≡◌}
use mathlib.Core.Bool.{true, false}
use mathlib.Core.List.{List}
use Prim.Native.Nat.{ℕ, ◌<◌, ◌≤◌}
use native.Mathlib.Omega.{arith}
use lib.Dec.{eqb, ltb}
use lib.ListN.{length}
use borrow.Author.Tests.{ne_eqb, lt-ltb, le-ltb}
use Rattle.elements.specs.declared.Edition.{Edition}
use Rattle.elements.specs.Judge.{Element}
use Rattle.letters.specs.Letter.{letter, refusal, letter_in}
use Rattle.answers.specs.Table.{rows_lent}
use Rattle.answers.specs.Answers.{table_of, refused_check, checked, checked_table, CheckOutcome}
use Rattle.answers.proofs.Small.{refusal-small}

module _ (edition : Edition) (s table : List ℕ) where
  pub checks-refused : (number place headers : ℕ) → letter_in edition s ≡ refusal number place headers
      → CheckOutcome edition s table (refused_check number place headers) table
  unfolding checked checked_table
  checks-refused number place headers e =
      let low = (refusal-small edition s number place headers e).low in
      let some : eqb number 0 ≡ false = ne_eqb number 0 (λ z. omega arith) in
      record { answered = rw e; tabled = rw (e, some) }

  pub checks_16 : (headers : ℕ) (elements : List Element) → letter_in edition s ≡ letter headers elements → rows_lent table < length elements
      → CheckOutcome edition s table (refused_check 16 0 headers) table
  unfolding checked checked_table
  checks_16 headers elements e few =
      let t : ltb (rows_lent table) (length elements) ≡ true = lt-ltb _ _ few in
      record { answered = rw (e, t); tabled = rw (e, t) }

  pub checks-letter : (headers count : ℕ) (elements : List Element) → letter_in edition s ≡ letter headers elements → length elements ≡ count
      → count ≤ rows_lent table → CheckOutcome edition s table (record { number = 0; place = 0; headers = headers; elements = count }) (table_of edition s table)
  unfolding checked checked_table
  checks-letter headers count elements e counted enough =
      let t : ltb (rows_lent table) (length elements) ≡ false = le-ltb (rows_lent table) (length elements) (omega arith) in
      record { answered = rw (e, t, counted); tabled = rw (e, t) }
