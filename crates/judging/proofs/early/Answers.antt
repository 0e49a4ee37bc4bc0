-- `judging::early` meets its contract: each test decides as its rule does.
use mathlib.Core.Path.{◌≡◌, refl, ◌∙◌}
use mathlib.Core.Bool.{Bool, true, false, not, beq, xor}
use native.Mathlib.Omega.{arith}
use borrow.Author.Tests.{le-leb, lt-leb}
use Rattle.contents.proofs.Firsts.{is_field}
use Rattle.judging.specs.Judges.{early_refusal}
use Rattle.judging.proofs.Steps.{is_known, is-other}
use Rattle.judging.proofs.early.Goals as goal

not-same : (a b : Bool) → xor a b ≡ not (beq a b)
unfolding xor
not-same true true = refl
not-same true false = refl
not-same false true = refl
not-same false false = refl

pub returns-then-n-ge-MOST_ELEMENTS : goal.returns-then-n-ge-MOST_ELEMENTS
unfolding early_refusal
returns-then-n-ge-MOST_ELEMENTS c = record { refusal = rw (le-leb _ _ c.if-n-ge-MOST_ELEMENTS.true); there = λ e. absurd (omega arith) }

pub returns-then-code-known : goal.returns-then-code-known
unfolding early_refusal
returns-then-code-known c =
    record { refusal = rw (lt-leb _ _ c.if-n-ge-MOST_ELEMENTS.false, is-other _ _ c.if-code-known.true); there = λ e. absurd (omega arith) }

pub returns-then-n-code : goal.returns-then-n-code
unfolding early_refusal
returns-then-n-code c =
    let a = c.args in
    record {
      refusal = rw (lt-leb _ _ c.if-n-ge-MOST_ELEMENTS.false, is_known _ _ c.if-code-known.false, is_field 160 a.code, not-same _ _ ∙ c.if-n-code.true);
      there = λ e. absurd (omega arith);
    }

pub returns : goal.returns
unfolding early_refusal
returns c =
    let a = c.args in
    rw (lt-leb _ _ c.if-n-ge-MOST_ELEMENTS.false, is_known _ _ c.if-code-known.false, is_field 160 a.code, not-same _ _ ∙ c.if-n-code.false)
