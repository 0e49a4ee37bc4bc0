-- The mailroom's question, case by case: 1, the rules, and the answer of the crate that writes.
use mathlib.Core.Path.{◌≡◌, ap}
use mathlib.Core.Bool.{true, false}
use mathlib.Core.List.{List}
use Prim.Native.Nat.{ℕ, ◌<◌, ◌≤◌}
use native.Mathlib.Omega.{arith}
use lib.Dec.{eqb, leb, ltb}
use lib.ListN.{length}
use borrow.Author.Tests.{ne_eqb, leb-true, leb-false, lt-ltb, le-ltb}
use borrow.Table.Steps.{cases}
use Rattle.octets.specs.Walk.{stream_limit}
use Rattle.tree.specs.Tree.{tree_of}
use Rattle.tree.proofs.Meaning.{means}
use Rattle.normal.specs.Normal.{normal_form}
use Rattle.normal.specs.Writes.{Answer, output_of, answer_short}
use Rattle.normal.specs.Short.{short_limit}
use Rattle.normal.proofs.Normals.{small}
use Rattle.elements.specs.declared.Edition.{Edition}
use Rattle.answers.specs.declared.Told.{Told}
use Rattle.answers.specs.Answers.{ruled}
use Rattle.answers.specs.Questions.{reason_told}
use Rattle.answers.specs.Short.{written_short, written_short_output, ShortOutcome}
use Rattle.answers.proofs.Small.{refusal-small}
use Rattle.letters.proofs.Letters.{letter-found}
use Rattle.answers.proofs.Judging.{accepts-walked}
use Rattle.answers.proofs.Working.{IsLetter, IsRefused}
use Rattle.answers.specs.Asking.{written_as}
use Rattle.odif.proofs.Writing.{Fits}

module _ (edition : Edition) (s : List ℕ) where
  -- what the rules say of a stream, as their work tells it
  pub reason-told : {told : Told} → told ≡ reason_told (ruled edition s) → record { number = told.number; place = told.place } ≡ ruled edition s
  reason-told e = ap (λ (t : Told). record { number = t.number; place = t.place }) e

  -- a normal form is at most three times as long as its stream
  form-fits : IsLetter edition s → length s ≤ short_limit → length (normal_form s) ≤ stream_limit
  form-fits p l =
      let f = letter-found edition s p.headers p.elements p.judged in
      let few = small (means s (tree_of s) (accepts-walked f.walked)).0 in
      omega arith

  module _ (out : List ℕ) where
    pub short-over : short_limit < length s → ShortOutcome edition s out (record { number = 1; place = 0; length = 0 }) out
    unfolding written_short written_short_output
    short-over l = let t = lt-ltb short_limit (length s) l in record { answered = rw t; put = rw t }

    module _ (l : length s ≤ short_limit) where
      within : ltb short_limit (length s) ≡ false
      within = le-ltb short_limit (length s) l

      pub short-refused : (number place : ℕ) → IsRefused edition s number place → ShortOutcome edition s out
          (record { number = number; place = place; length = 0 }) out
      unfolding written_short written_short_output
      short-refused number place r =
          let low = (refusal-small edition s number place r.headers r.judged).low in
          let some : eqb number 0 ≡ false = ne_eqb number 0 (λ z. omega arith) in
          record { answered = rw (within, r.judged); put = rw (within, r.judged, some) }

      -- the answer of the crate that writes, of a letter
      abbrev expected : Answer
      expected = answer_short (normal_form s) out

      pub short-letter : IsLetter edition s → ShortOutcome edition s out (written_as expected) (output_of expected (normal_form s) out) × Fits (written_as expected)
      unfolding written_short written_short_output answer_short
      short-letter p =
          let form = normal_form s in
          let fits = form-fits p l in
          let e = p.judged in
          cases (leb (length form) (length out))
          (λ room.
          let b : ltb (length out) (length form) ≡ false = le-ltb (length out) (length form) (leb-true _ _ room) in
          (record { answered = rw (within, e, b, room); put = rw (within, e, b, room) }, rw room (omega arith, (omega arith, fits))))
          (λ room.
          let b : ltb (length out) (length form) ≡ true = lt-ltb (length out) (length form) (leb-false _ _ room) in
          (record { answered = rw (within, e, b, room); put = rw (within, e, b, room) }, rw room (omega arith, (omega arith, omega arith))))
