-- Octets are copied to a lent buffer, or it is too short: the two cases, and what the question answers in each.
use mathlib.Core.Path.{◌≡◌, refl, ap, sym, ◌∙◌}
use mathlib.Core.Bool.{true, false, cond}
use mathlib.Core.List.{List, ◌++◌}
use Prim.Native.Nat.{ℕ, ◌<◌, ◌≤◌}
use native.Mathlib.Omega.{arith}
use lib.Dec.{eqb, ltb}
use lib.ListN.{length, drop}
use borrow.Author.Tests.{ne_eqb, lt-ltb, le-ltb, ltb-false}
use Rattle.laws.proofs.Tests.{cond-holds}
use Rattle.elements.specs.declared.Edition.{Edition}
use Rattle.answers.specs.declared.Copied.{Copied}
use Rattle.answers.specs.Answers.{onto, Fetched, handed, withheld, joined_in, copied, copied_output, JoinedOutcome}
use Rattle.answers.specs.Asking.{Copies}

module _ (content out : List ℕ) where
  -- 22 "copy buffer too short .. buffer untouched"
  pub copies-none : length out < length content → Copies content out (record { number = 22; place = 0; length = 0 }) out
  copies-none short = let t : ltb (length out) (length content) ≡ true = lt-ltb _ _ short in record { answered = rw t; put = refl }

  pub copies-all : {n : ℕ} {after : List ℕ} → length content ≤ length out → n ≡ length content → after ≡ content ++ drop n out
      → Copies content out (record { number = 0; place = 0; length = n }) after
  copies-all room all put =
      let t : ltb (length out) (length content) ≡ false = le-ltb (length out) (length content) room in
      record { answered = rw (t, all); put = put ∙ rw all }

module _ (edition : Edition) (s : List ℕ) (asked : ℕ) (out : List ℕ) where
  -- the joined content of a text unit is copied
  pub joins-unit : {content after : List ℕ} {answer : Copied} → joined_in edition s asked ≡ handed content → Copies content out answer after
      → JoinedOutcome edition s asked out answer after
  unfolding copied copied_output
  joins-unit {content} {after} {answer} e c =
      let told : answer ≡ copied edition s asked out = c.answered ∙ rw e in
      let filled : after ≡ cond (eqb (copied edition s asked out).number 0) (onto content out) out =
      c.put ∙ ap (λ (a : Copied). cond (eqb a.number 0) (onto content out) out) told in
      record { answered = told; put = filled ∙ ap (λ (f : Fetched). cond (eqb (copied edition s asked out).number 0) (onto f.part out) out) (sym e) }

  -- a program that lends a buffer may take the copy from it
  pub copied-within : (copied edition s asked out).length ≤ length out
  unfolding copied
  copied-within =
      let part = (joined_in edition s asked).part in
      cond-holds (λ (a : Copied). a.length ≤ length out) (eqb (joined_in edition s asked).number 0)
      (λ _. cond-holds (λ (a : Copied). a.length ≤ length out) (ltb (length out) (length part)) (λ _. omega arith)
      (λ t. ltb-false (length out) (length part) t))
      (λ _. omega arith)

  -- what is refused before the buffer is looked at
  pub joins-none : (number place : ℕ) → (number ≡ 0 → ⊥) → joined_in edition s asked ≡ withheld number place
      → JoinedOutcome edition s asked out (record { number = number; place = place; length = 0 }) out
  unfolding copied copied_output
  joins-none number place some e = let t : eqb number 0 ≡ false = ne_eqb number 0 some in record { answered = rw (e, t); put = rw (e, t, t) }
