-- The mailroom's question in lent scratch, case by case: 1, scratch that is too small, and else what the question in scratch of the library's own
-- answers.
use mathlib.Core.Path.{◌≡◌, ap, ◌∙◌}
use mathlib.Core.Bool.{true, false}
use mathlib.Core.List.{List}
use Prim.Native.Nat.{ℕ, ◌<◌, ◌≤◌}
use native.Mathlib.Omega.{arith}
use lib.Dec.{ltb}
use lib.ListN.{length}
use borrow.Author.Tests.{lt-ltb, le-ltb}
use borrow.Table.Steps.{cases}
use Rattle.normal.specs.Short.{short_limit}
use Rattle.elements.specs.declared.Edition.{Edition}
use Rattle.answers.specs.declared.Reason.{Reason}
use Rattle.answers.specs.declared.Written.{Written}
use Rattle.answers.specs.Answers.{ruled}
use Rattle.answers.specs.Short.{ShortOutcome}
use Rattle.answers.proofs.Working.{IsLetter}
use Rattle.lent.specs.Lent.{lacks, ruled_lent, is_lacking, written_lent, written_lent_output, LentOutcome}
use Rattle.odif.proofs.Writing.{refused, passed}
use Rattle.odif.proofs.Short.{short-over, short-refused}

module _ (edition : Edition) (s out : List ℕ) (rows index : ℕ) where
  pub as_short : is_lacking s rows index ≡ false → {answer : Written} {after : List ℕ} → ShortOutcome edition s out answer after
      → LentOutcome edition s out rows index answer after
  unfolding written_lent written_lent_output
  as_short e o = record { answered = rw e o.answered; put = rw e o.put }

  pub lent-over : short_limit < length s → LentOutcome edition s out rows index (record { number = 1; place = 0; length = 0 }) out
  lent-over l = as_short (rw (lt-ltb short_limit (length s) l)) (short-over edition s out l)

  module _ (l : length s ≤ short_limit) where
    within : ltb short_limit (length s) ≡ false
    within = le-ltb short_limit (length s) l

    pub enough : lacks s rows index ≡ false → is_lacking s rows index ≡ false
    enough e = rw (within, e)

    too_small : lacks s rows index ≡ true → LentOutcome edition s out rows index (record { number = 32; place = 0; length = 0 }) out
    unfolding written_lent written_lent_output
    too_small e = let t : is_lacking s rows index ≡ true = rw (within, e) in record { answered = rw t; put = rw t }

    module _ (r : Reason) (told : r ≡ ruled_lent edition s rows index) where
      by_rules : lacks s rows index ≡ false → r ≡ ruled edition s
      by_rules e = told ∙ rw e

      by-scratch : lacks s rows index ≡ true → r ≡ record { number = 32; place = 0 }
      by-scratch e = told ∙ rw e

      pub lent-refused : (r.number ≡ 0 → ⊥) → LentOutcome edition s out rows index (record { number = r.number; place = r.place; length = 0 }) out
      lent-refused some =
          cases (lacks s rows index)
          (λ t. rw (by-scratch t) (too_small t))
          (λ t. as_short (enough t) (short-refused edition s out l r.number r.place (refused edition s r (by_rules t) some)))

      -- a stream that nothing refuses is a letter, and the scratch was enough for it
      pub lent-enough : r.number ≡ 0 → lacks s rows index ≡ false
      lent-enough zero =
          cases (lacks s rows index)
          (λ t. absurd (omega (arith, zero, ap (λ (x : Reason). x.number) (by-scratch t))))
          (λ t. t)

      pub lent-passed : r.number ≡ 0 → IsLetter edition s
      lent-passed zero = passed edition s r (by_rules (lent-enough zero)) zero
