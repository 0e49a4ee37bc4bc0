-- What the writers give, by how long the normal form is: each case is one of `answer_of` or `answer_short`, which are the same within the stream limit.
use mathlib.Core.Path.{◌≡◌, refl, ap, sym, ◌∙◌}
use mathlib.Core.Bool.{true, false}
use mathlib.Core.List.{List}
use Prim.Native.Nat.{ℕ, ◌+◌, ◌<◌, ◌≤◌}
use native.Mathlib.Omega.{arith}
use lib.ListN.{length}
use lib.Seq.{slice}
use borrow.Author.Tests.{le-leb, lt-leb}
use Rattle.octets.specs.Walk.{stream_limit, deepest}
use Rattle.normal.specs.declared.Measured.{Measured}
use Rattle.normal.specs.Normal.{normal_form}
use Rattle.normal.specs.Passes.{normal_from, StreamMeasures, PutsOctets}
use Rattle.normal.specs.Writes.{Answer, written, refused, answer_of, answer_short, output_of, GivesAnswer}
use Rattle.normal.proofs.Passes.{form-end}
use Rattle.normal.proofs.Putting.{put_front}

-- the normal form of a stream is that of its run
pub form_is : (s : List ℕ) → normal_form s ≡ normal_from deepest s 0 (length s) false
unfolding normal_from
form_is s = refl

-- what was measured of a whole stream: how long its normal form is, and if it is its own, that
pub stream-measured : (s : List ℕ) → (m : Measured) → StreamMeasures s m
    → (m.size ≡ length (normal_form s)) × (m.shortest ≡ true → (m.size ≤ length s) × (normal_form s ≡ slice 0 m.size s))
unfolding normal_from
stream-measured s m (r, v) =
    let z : 0 + m.size ≡ m.size = omega arith in (
      v.size,
      λ b.
          let (form, e) = v.own b in
          let to : m.next ≡ length s = v.past ∙ form-end deepest s 0 (length s) false r refl in
          (omega arith, form ∙ ap (λ (k : ℕ). slice 0 k s) z),
    )

module _ (form out : List ℕ) where
  pub gives-17 : stream_limit < length form → GivesAnswer (answer_of form out) form out (refused 17 0) out
  unfolding answer_of
  gives-17 l = rw (lt-leb (length form) stream_limit l) (record { answered = refl; output = refl })

  pub gives-18 : length out < length form → GivesAnswer (answer_short form out) form out (refused 18 0) out
  unfolding answer_short
  gives-18 f = rw (lt-leb (length form) (length out) f) (record { answered = refl; output = refl })

  pub gives-form : length form ≤ length out → (n : ℕ) → n ≡ length form → (octets : List ℕ) → form ≡ octets → (past : ℕ) (after : List ℕ)
      → PutsOctets out 0 octets past after → GivesAnswer (answer_short form out) form out (written n) after
  unfolding answer_short
  gives-form f n e octets same past after p =
      rw (le-leb (length form) (length out) f) (record { answered = ap written e; output = put_front out form after past f (rw same p) })

  -- within the limit the two writers give the same
  pub same-within : length form ≤ stream_limit → answer_short form out ≡ answer_of form out
  unfolding answer_short answer_of
  same-within l = rw (le-leb (length form) stream_limit l)

-- A contract that says `GivesAnswer` leaves nothing open: two outcomes that it allows are equal.
pub determined : {expected : Answer} {form before : List ℕ} {a b : Answer} {x y : List ℕ}
    → GivesAnswer expected form before a x → GivesAnswer expected form before b y → (a ≡ b) × (x ≡ y)
determined g h = (g.answered ∙ sym h.answered, g.output ∙ sym h.output)

-- After a refusal the output is as it was.
pub untouched : {expected : Answer} {form before : List ℕ} {number place : ℕ} {after : List ℕ}
    → GivesAnswer expected form before (refused number place) after → after ≡ before
untouched {expected} {form} {before} g = g.output ∙ ap (λ (a : Answer). output_of a form before) (sym g.answered)
