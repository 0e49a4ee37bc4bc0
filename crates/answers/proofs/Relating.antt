-- The answer about a row's children, the table and the list, case by case: what the stream is decides them.
use mathlib.Core.Path.{◌≡◌, refl}
use mathlib.Core.Bool.{true, false}
use mathlib.Core.List.{List}
use Prim.Native.Nat.{ℕ, ◌<◌, ◌≤◌}
use native.Mathlib.Omega.{arith}
use lib.Dec.{eqb, ltb, leb}
use lib.ListN.{length}
use borrow.Author.Tests.{ne_eqb, lt-ltb, le-ltb, le-leb, lt-leb}
use Rattle.elements.specs.declared.Edition.{Edition}
use Rattle.elements.specs.Judge.{Element}
use Rattle.letters.specs.Letter.{letter, refusal, letter_in}
use Rattle.parents.specs.Parent.{children}
use Rattle.answers.specs.declared.Related.{Related}
use Rattle.answers.specs.Table.{rows_lent}
use Rattle.answers.specs.Answers.{onto, table_of}
use Rattle.answers.specs.Related.{unrelated, related, related_table}
use Rattle.answers.specs.Filling.{Relates}
use Rattle.answers.proofs.Small.{refusal-small}

module _ (edition : Edition) (s table : List ℕ) (row room : ℕ) (list : List ℕ) where
  -- 1 to 15
  pub relates-refused : (number place headers : ℕ) → letter_in edition s ≡ refusal number place headers
      → Relates edition s table row room list (unrelated number place 0) table list
  unfolding related related_table
  relates-refused number place headers e =
      let small = refusal-small edition s number place headers e in
      let some : eqb number 0 ≡ false = ne_eqb number 0 (λ z. omega arith) in
      let no-25 : eqb number 25 ≡ false = ne_eqb number 25 (λ z. omega arith) in
      record { answered = rw e; tabled = rw (e, some, no-25); filled = rw some }

  module _ (headers count : ℕ) (elements : List Element) (e : letter_in edition s ≡ letter headers elements) (counted : length elements ≡ count) where
    -- 16
    pub relates-16 : rows_lent table < count → Relates edition s table row room list (unrelated 16 0 0) table list
    unfolding related related_table
    relates-16 few =
        let t : ltb (rows_lent table) (length elements) ≡ true = lt-ltb (rows_lent table) (length elements) (omega arith) in
        record { answered = rw (e, t); tabled = rw (e, t); filled = refl }

    module _ (enough-rows : count ≤ rows_lent table) where
      rows-enough : ltb (rows_lent table) (length elements) ≡ false
      rows-enough = le-ltb (rows_lent table) (length elements) (omega arith)

      -- 20 "no such row, table untouched too"
      pub relates-20 : count ≤ row → Relates edition s table row room list (unrelated 20 0 0) table list
      unfolding related related_table
      relates-20 past =
          let t = rows-enough in
          let u : leb (length elements) row ≡ true = le-leb (length elements) row (omega arith) in
          record { answered = rw (e, t, u); tabled = rw (e, t, u); filled = refl }

      module _ (below : row < count) where
        there : leb (length elements) row ≡ false
        there = lt-leb (length elements) row (omega arith)

        -- 25 "children list too short, table finished"
        pub relates-25 : (found : ℕ) → found ≡ length (children elements row) → room < found
            → Relates edition s table row room list (unrelated 25 0 count) (table_of edition s table) list
        unfolding related related_table
        relates-25 found all short =
            let t = rows-enough in
            let u = there in
            let v : ltb room (length (children elements row)) ≡ true = lt-ltb room (length (children elements row)) (omega arith) in
            record { answered = rw (e, t, u, v, counted); tabled = rw (e, t, u, v); filled = refl }

        pub relates-letter : (found : ℕ) → found ≡ length (children elements row) → found ≤ room
            → Relates edition s table row room list (record { number = 0; place = 0; elements = count; children = found }) (table_of edition s table)
            (onto (children elements row) list)
        unfolding related related_table
        relates-letter found all room_enough =
            let t = rows-enough in
            let u = there in
            let v : ltb room (length (children elements row)) ≡ false = le-ltb room (length (children elements row)) (omega arith) in
            record { answered = rw (e, t, u, v, counted, all); tabled = rw (e, t, u, v); filled = rw e }

-- table and list by other names
pub renamed : {edition : Edition} {s table : List ℕ} {row room : ℕ} {list : List ℕ} {answer same : Related} {after finished list_after put : List ℕ}
    → answer ≡ same
    → after ≡ finished → list_after ≡ put → Relates edition s table row room list same finished put → Relates edition s table row room list answer after list_after
renamed a e f r = rw (a, e, f) r
