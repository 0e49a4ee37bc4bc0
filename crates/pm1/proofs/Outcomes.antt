-- The question's answer, table and list, case by case: what the check answered decides them, and how many pages there are.
use mathlib.Core.Path.{◌≡◌, ap, sym, ◌∙◌}
use mathlib.Core.Bool.{true, false}
use mathlib.Core.List.{List, ◌++◌}
use Prim.Native.Nat.{ℕ, ◌<◌, ◌≤◌, ◌+◌, ◌*◌}
use native.Mathlib.Omega.{arith}
use lib.Dec.{eqb, ltb}
use lib.ListN.{length, drop}
use lib.Seq.{sets, sets-eq}
use borrow.Author.Tests.{eq-eqb, ne_eqb, lt-ltb, le-ltb}
use Rattle.runs.specs.Runs.{items_of, whole_stream, tops}
use Rattle.elements.specs.declared.Edition.{Edition}
use Rattle.answers.specs.declared.Checked.{Checked}
use Rattle.answers.specs.Table.{table_width}
use Rattle.answers.specs.Answers.{onto, table_of, checked, checked_table, CheckOutcome}
use Rattle.pm1.specs.Pages.{Page, pages_in, page_numbers}
use Rattle.pm1.specs.Answers.{pages_lent, paged, paged_table, paged_list, PagesOutcome}
use Rattle.pm1.specs.ByTable.{pages_among, pages_by, Ready}
use Rattle.promises.proofs.Accepted.{Accepted, accepts, check-high, fine, as_many, few, finished}
use Rattle.pm1.proofs.Numbers.{pages-by-table}
use Rattle.pm1.proofs.Counting.{among-listed}
use Rattle.pm1.proofs.Putting.{length-numbers}

module _ {edition : Edition} {s table : List ℕ} {answer : Checked} {after : List ℕ} (o : CheckOutcome edition s table answer after) (list : List ℕ) where
  number_is : (checked edition s table).number ≡ answer.number
  number_is = ap (λ (c : Checked). c.number) (sym o.answered)

  pub pages-refused : (answer.number ≡ 0 → ⊥)
      → PagesOutcome edition s table list (record { number = answer.number; place = answer.place; elements = 0; pages = 0 }) after list
  unfolding paged paged_table paged_list checked_table
  pages-refused some =
      let high = check-high edition s table in
      let n = number_is in
      let a = o.answered in
      let none : eqb answer.number 0 ≡ false = ne_eqb answer.number 0 some in
      let no-30 : eqb answer.number 30 ≡ false = ne_eqb answer.number 30 (λ z. omega arith) in
      record { answered = rw (← a, none); tabled = o.tabled ∙ rw (← a, none, none, no-30); filled = rw (← a, none, none) }

  module _ (zero : answer.number ≡ 0) where
    accepted : Accepted edition s table
    accepted = accepts edition s table (number_is ∙ zero)

    after_is : after ≡ table_of edition s table
    after_is = o.tabled ∙ finished accepted

    all : pages_by s after ≡ pages_in edition s
    all = pages-by-table accepted after after_is

    elements-are : answer.elements ≡ tops (items_of s (whole_stream s))
    elements-are = ap (λ (c : Checked). c.elements) (o.answered ∙ accepted.told) ∙ sym (as_many accepted)

    -- the rows of the finished table can be counted
    pub countable : length after ≡ length table → (answer.elements ≤ 4096) × (answer.elements * table_width ≤ length after)
    countable same =
        let e = elements-are in
        let m = as_many accepted in
        let f = few accepted in
        let enough = accepted.enough in
        (omega arith, omega arith)

    module _ {count : ℕ} (counted : count ≡ pages_among after 0 answer.elements) where
      listed-are : length (pages_by s after) ≡ count
      listed-are = among-listed s after 0 (items_of s (whole_stream s)) ∙ ap (pages_among after 0) (sym elements-are) ∙ sym counted

      many : length (pages_in edition s) ≡ count
      many = ap length (sym all) ∙ listed-are

      pub pages-30 : pages_lent list < count → PagesOutcome edition s table list (record {
        number = 30;
        place = 0;
        elements = answer.elements;
        pages = 0;
      }) after list
      unfolding paged paged_table paged_list
      pages-30 short =
          let a = o.answered in
          let t : ltb (pages_lent list) (length (pages_in edition s)) ≡ true = lt-ltb (pages_lent list) (length (pages_in edition s)) (omega (arith, many)) in
          let z = eq-eqb answer.number 0 zero in
          record { answered = rw (← a, z, t); tabled = after_is ∙ rw (← a, z, t); filled = rw (← a, z, t) }

      module _ (enough : count ≤ pages_lent list) where
        pub ready : length after ≡ length table → Ready s after list
        ready same =
            let c = countable same in
            let e = elements-are in
            let l = listed-are in
            record { fine = fine accepted; few = omega arith; rows = omega arith; room = omega arith }

        pub pages-all : {list_after : List ℕ} → list_after ≡ sets list 0 (page_numbers (pages_by s after))
            → PagesOutcome edition s table list (record { number = 0; place = 0; elements = answer.elements; pages = count }) after list_after
        unfolding paged paged_table paged_list
        pages-all put =
            let a = o.answered in
            let numbers = page_numbers (pages_in edition s) in
            let size = length-numbers (pages_in edition s) in
            let m = many in
            let t : ltb (pages_lent list) (length (pages_in edition s)) ≡ false = le-ltb (pages_lent list) (length (pages_in edition s)) (omega arith) in
            let z = eq-eqb answer.number 0 zero in
            let front : 0 + length numbers ≡ length numbers = omega arith in
            let form : sets list 0 numbers ≡ onto numbers list = sets-eq numbers list 0 (omega arith) ∙ ap (λ (k : ℕ). numbers ++ drop k list) front in
            record {
              answered = rw (← a, z, t, m);
              tabled = after_is ∙ rw (← a, z, t);
              filled = put ∙ ap (λ (pages : List Page). sets list 0 (page_numbers pages)) all ∙ form ∙ rw (← a, z, t);
            }
