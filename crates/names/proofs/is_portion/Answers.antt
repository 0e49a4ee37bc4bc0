-- `names::is_portion` meets its contract. The loop's invariant: the whole is a portion number exactly if what is left are digits.
use mathlib.Core.Path.{◌≡◌, sym, ◌∙◌}
use mathlib.Core.Bool.{◌&&◌, false≢true}
use mathlib.Core.Logic.{inl, inr}
use Prim.Native.Nat.{◌+◌}
use borrow.Author.Tests.{eq-eqb, eqb-true}
use lib.ListN.{get_or, drop, drop_of_length-le}
use Rattle.names.specs.Names.{is_digit, all_digits, is_portion}
use Rattle.names.proofs.Spelling.{portion-empty, portion-long, portion-short, digits_more}
use Rattle.names.proofs.is_portion.Goals as goal
use Rattle.names.proofs.is_portion.Goals.{In-loop-byte}

-- what the next byte decides
turn : (c : In-loop-byte) →
    let name = c.args.name.now in
    let at = c.loop-byte.byte-index in
    is_portion name ≡ (is_digit (get_or name at 0) && all_digits (drop (at + 1) name))
turn c = c.loop-byte.invariant ∙ digits_more c.args.name.now c.loop-byte.byte-index c.loop-byte-test.true

pub returns-then-is_empty : goal.returns-then-is_empty
returns-then-is_empty c =
    let name = c.args.name.now in
    elim c.then-is_empty.either [
      | inl t ↦ sym (portion-empty name (eqb-true _ _ (sym c.is_empty.ensures ∙ t)))
      | inr f ↦ sym (portion-long name f.1)
    ]

pub loop-byte-init : goal.loop-byte-init
loop-byte-init c = portion-short c.args.name.now (λ e. false≢true (c.if-is_empty.ensures ∙ eq-eqb _ _ e)) c.if-name-gt-LONGEST_PORTION.false

pub returns-then-not-is_digit : goal.returns-then-not-is_digit
returns-then-not-is_digit c =
    sym (turn (goal.at.returns-then-not-is_digit c).In-loop-byte ∙ rw (sym c.is_digit.ensures ∙ c.if-not-is_digit.true))

pub loop-byte-preserved : goal.loop-byte-preserved
loop-byte-preserved c =
    turn (goal.at.loop-byte-preserved c).In-loop-byte ∙ rw (sym c.is_digit.ensures ∙ c.if-not-is_digit.false)

pub returns : goal.returns
unfolding all_digits
returns c = sym (c.loop-byte.invariant ∙ rw (drop_of_length-le c.args.name.now c.loop-byte-test.false))
