-- What the rules told, as a letter or a refusal; and the writer's answer and output, case by case: the tests are those of the crate that writes,
-- in other words.
use mathlib.Core.Path.{◌≡◌, ap, sym, ◌∙◌}
use mathlib.Core.Bool.{true, false}
use mathlib.Core.List.{List}
use Prim.Native.Nat.{ℕ, ◌≤◌}
use native.Mathlib.Omega.{arith}
use lib.Dec.{eqb, leb, ltb}
use lib.ListN.{length}
use borrow.Author.Tests.{ne_eqb, leb-true, leb-false, lt-ltb, le-ltb}
use borrow.Table.Steps.{cases}
use Rattle.octets.specs.Walk.{stream_limit, deepest, run}
use Rattle.tree.specs.Accepts.{Whole}
use Rattle.tree.proofs.Meaning.{whole_of}
use Rattle.normal.specs.Normal.{normal_form}
use Rattle.normal.specs.Writes.{Answer, answer_of, output_of}
use Rattle.elements.specs.declared.Edition.{Edition}
use Rattle.answers.specs.declared.Written.{Written}
use Rattle.answers.specs.declared.Reason.{Reason}
use Rattle.answers.specs.Answers.{ruled, written, written_output, NormalOutcome}
use Rattle.answers.specs.Asking.{written_as}
use Rattle.answers.proofs.Small.{refusal-small}
use Rattle.letters.proofs.Letters.{letter-found}
use Rattle.answers.proofs.Working.{IsLetter, IsRefused, is_letter, is-refused}

-- what `written_as` needs: all that is answered fits 32 bits
abbrev pub Fits : Written → Type 0
Fits answer = (answer.number ≤ 18) × ((answer.place ≤ 0) × (answer.length ≤ stream_limit))

module _ (edition : Edition) (s : List ℕ) where
  pub refused : (r : Reason) → r ≡ ruled edition s → (r.number ≡ 0 → ⊥) → IsRefused edition s r.number r.place
  refused r e some = rw e (is-refused edition s (λ z. some (ap (λ (x : Reason). x.number) e ∙ z)))

  pub passed : (r : Reason) → r ≡ ruled edition s → r.number ≡ 0 → IsLetter edition s
  passed r e zero = is_letter edition s (sym (ap (λ (x : Reason). x.number) e) ∙ zero)

  pub letter-whole : IsLetter edition s → (length s ≤ stream_limit) × Whole (run deepest s 0 (length s) false).how
  letter-whole p =
      let f = letter-found edition s p.headers p.elements p.judged in
      whole_of s f.at p.headers f.walked

module _ (edition : Edition) (s out : List ℕ) where
  pub writes-refused : (number place : ℕ) → IsRefused edition s number place → NormalOutcome edition s out
      (record { number = number; place = place; length = 0 }) out
  unfolding written written_output
  writes-refused number place r =
      let e = r.judged in
      let low = (refusal-small edition s number place r.headers e).low in
      let some : eqb number 0 ≡ false = ne_eqb number 0 (λ z. omega arith) in
      record { answered = rw e; put = rw (e, some) }

  -- the answer of the crate that writes, of a letter
  abbrev expected : Answer
  expected = answer_of (normal_form s) out

  pub writes-letter : IsLetter edition s → NormalOutcome edition s out (written_as expected) (output_of expected (normal_form s) out) × Fits (written_as expected)
  unfolding written written_output answer_of
  writes-letter p =
      let form = normal_form s in
      let e = p.judged in
      cases (leb (length form) stream_limit)
      (λ within.
      let a : ltb stream_limit (length form) ≡ false = le-ltb stream_limit (length form) (leb-true _ _ within) in
      cases (leb (length form) (length out))
      (λ room.
      let b : ltb (length out) (length form) ≡ false = le-ltb (length out) (length form) (leb-true _ _ room) in
      let l = leb-true (length form) stream_limit within in
      (record { answered = rw (e, a, b, within, room); put = rw (e, a, b, within, room) }, rw (within, room) (omega arith, (omega arith, l))))
      (λ room.
      let b : ltb (length out) (length form) ≡ true = lt-ltb (length out) (length form) (leb-false _ _ room) in
      (record { answered = rw (e, a, b, within, room); put = rw (e, a, b, within, room) }, rw (within, room) (omega arith, (omega arith, omega arith)))))
      (λ over.
      let a : ltb stream_limit (length form) ≡ true = lt-ltb stream_limit (length form) (leb-false _ _ over) in
      (record { answered = rw (e, a, over); put = rw (e, a, over) }, rw over (omega arith, (omega arith, omega arith))))
