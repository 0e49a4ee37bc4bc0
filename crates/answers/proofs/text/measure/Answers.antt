-- `answers::text::measure` meets its contract: what is counted, and what is left, is all.
use mathlib.Core.Path.{◌≡◌, ap}
use Prim.Native.Nat.{ℕ, ◌-◌}
use native.Mathlib.Omega.{arith}
use lib.ListN.{length}
use Rattle.text_lines.specs.Text.{texts_of}
use Rattle.text_lines.specs.Flat.{records_from}
use Rattle.text_lines.proofs.Putting.{size-left, size_none}
use Rattle.answers.specs.Text.{text_in}
use Rattle.answers.proofs.text.measure.Goals as goal

pub loop-k-init : goal.loop-k-init
loop-k-init c =
    let a = c.args in
    let z : a.lines - 0 ≡ a.lines = omega arith in
    let e = ap (λ (n : ℕ). length (texts_of (text_in a.edition a.stream.now) (records_from a.numbers.now 0 n))) z in
    (omega arith, omega (arith, e))

pub text_length-total-requires : goal.text_length-total-requires
text_length-total-requires c = record { accepts = c.requires.accepts; letter_rows = c.requires.letter_rows }

pub overflow_add-total : goal.overflow_add-total
overflow_add-total c =
    let a = c.args in
    let l = c.loop-k in
    let own = c.text_length-total.ensures in
    let left = size-left (text_in a.edition a.stream.now) a.numbers.now l.k a.lines c.loop-k-test.true in
    omega (arith, own, left, l.invariant.1, c.requires.listing.short)

pub loop-k-preserved : goal.loop-k-preserved
loop-k-preserved c =
    let a = c.args in
    let l = c.loop-k in
    let own = c.text_length-total.ensures in
    let left = size-left (text_in a.edition a.stream.now) a.numbers.now l.k a.lines c.loop-k-test.true in
    (omega arith, omega (arith, own, left, l.invariant.1))

pub returns : goal.returns
returns c =
    let a = c.args in
    let l = c.loop-k in
    let none_left = size_none (text_in a.edition a.stream.now) a.numbers.now l.k a.lines c.loop-k-test.false in
    omega (arith, none_left, l.invariant.1)
