-- What refuses a stream in lent scratch, case by case: the walk, then scratch that is too small, then rules 9 to 15.
use mathlib.Core.Path.{◌≡◌, sym}
use mathlib.Core.Bool.{true}
use mathlib.Core.List.{List}
use Prim.Native.Nat.{ℕ, ◌<◌, ◌≤◌}
use lib.Dec.{ltb}
use borrow.Author.Tests.{lt-ltb, le-ltb}
use borrow.Table.Steps.{cases}
use Rattle.octets.specs.Told.{ended, refused}
use Rattle.octets.specs.Walk.{walk_of}
use Rattle.elements.specs.declared.Edition.{Edition}
use Rattle.letters.specs.Lent.{rows_needed}
use Rattle.answers.specs.Answers.{ruled}
use Rattle.letters.proofs.Letters.{refused-walk}
use Rattle.answers.proofs.Working.{ruled-refused}
use Rattle.lent.specs.Lent.{rows_for, index_for, too_few, ruled_lent}

module _ (edition : Edition) (s : List ℕ) (rows index : ℕ) where
  pub by-walk : (number place headers : ℕ) → walk_of s ≡ refused number place headers → record { number = number; place = place } ≡ ruled_lent edition s rows index
  by-walk number place headers w = sym (rw w (ruled-refused edition s (refused-walk edition s number place headers w)))

  module _ {at headers : ℕ} (w : walk_of s ≡ ended at headers) where
    lacking : too_few s rows index ≡ true → record { number = 32; place = 0 } ≡ ruled_lent edition s rows index
    lacking e = rw (w, e)

    pub few-rows : rows < rows_for (rows_needed s) → record { number = 32; place = 0 } ≡ ruled_lent edition s rows index
    few-rows l = lacking (rw (lt-ltb rows (rows_for (rows_needed s)) l))

    pub few-index : index < index_for (rows_needed s) → record { number = 32; place = 0 } ≡ ruled_lent edition s rows index
    few-index l =
        let t : ltb index (index_for (rows_needed s)) ≡ true = lt-ltb index (index_for (rows_needed s)) l in
        lacking (cases (ltb rows (rows_for (rows_needed s))) (λ u. rw u) (λ u. rw (u, t)))

    pub enough : rows_for (rows_needed s) ≤ rows → index_for (rows_needed s) ≤ index → ruled edition s ≡ ruled_lent edition s rows index
    enough l m = rw (w, le-ltb rows (rows_for (rows_needed s)) l, le-ltb index (index_for (rows_needed s)) m)
