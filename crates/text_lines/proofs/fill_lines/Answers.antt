-- `text_lines::fill_lines` meets its contract. The loop's invariant: the lines that are put, and then those that are left, are all.
use mathlib.Core.Path.{◌≡◌, refl, ap, sym, ◌∙◌}
use Prim.Native.Nat.{ℕ, ◌-◌, ◌*◌}
use native.Mathlib.Omega.{arith}
use lib.Seq.{sets}
use Rattle.text_lines.specs.Flat.{lines_left}
use Rattle.text_lines.proofs.Flat.{left_step, left-none}
use Rattle.text_lines.proofs.fill_lines.Goals as goal

pub loop-k-init : goal.loop-k-init
loop-k-init c =
    let a = c.args in
    let z : a.count - 0 ≡ a.count = omega arith in
    (refl, ap (λ (n : ℕ). sets a.lines.now 0 (lines_left a.numbers.now a.count 0 n 0)) z)

pub put_line-requires : goal.put_line-requires
put_line-requires c = let l = c.loop-k in omega (arith, l.invariant.0)

pub loop-k-preserved : goal.loop-k-preserved
loop-k-preserved c =
    let a = c.args in
    let l = c.loop-k in
    let below = c.loop-k-test.true in
    (c.put_line.auto.lines ∙ l.invariant.0, left_step a.numbers.now a.count l.k l.first l.lines _ below c.put_line.ensures ∙ l.invariant.1)

pub shape_of-lines : goal.shape_of-lines
shape_of-lines c = c.loop-k.invariant.0

pub returns : goal.returns
returns c =
    let a = c.args in
    let l = c.loop-k in
    ap (sets l.lines (5 * l.k)) (sym (left-none a.numbers.now a.count l.k l.first (omega arith))) ∙ l.invariant.1
