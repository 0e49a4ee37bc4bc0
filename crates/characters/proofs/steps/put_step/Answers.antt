-- `characters::steps::put_step` meets its contract: a run, or else the sign.
use Prim.Native.Nat.{◌-◌}
use native.Mathlib.Omega.{arith}
use mathlib.Core.Path.{◌≡◌, refl, sym, ap, ◌∙◌}
use lib.ListN.{length}
use lib.Seq.{sets}
use Rattle.characters.specs.declared.Sign.{Sign}
use Rattle.characters.specs.Sets.{number_of}
use Rattle.characters.specs.Signs.{octets_of}
use Rattle.characters.specs.Steps.{step, of_sign}
use Rattle.characters.proofs.Going.{run-within, run_step, run-text, no_run, sign-step, sign_text}
use Rattle.characters.proofs.steps.put_step.Goals as goal

pub put_plain-end-requires : goal.put_plain-end-requires
put_plain-end-requires c =
    let a = c.args in
    let pre = c.requires in
    (omega arith, omega (arith, pre.2, run-within (number_of a.set) a.octets.now a.at _ refl))

pub returns-then-at-end : goal.returns-then-at-end
returns-then-at-end c =
    let a = c.args in
    let xs = a.octets.now in
    record { value = run_step (number_of a.set) xs a.at _ c.put_plain-end.ensures.value c.if-at-end.true; out_after = c.put_plain-end.ensures.out_after ∙ ap (sets a.out.now a.here) (sym (run-text (number_of a.set) xs a.at _ c.put_plain-end.ensures.value c.if-at-end.true)) }

pub put-past-requires : goal.put-past-requires
put-past-requires c =
    let a = c.args in
    let pre = c.requires in
    let xs = a.octets.now in
    let sign = c.sign_at-sign in
    let text = sign_text (number_of a.set) xs a.at _ c.put_plain-end.ensures.value c.if-at-end.false in
    omega (arith, pre.2, c.put_plain-end.auto.out, ap length text, ap (λ (x : Sign). length (octets_of x.points)) sign.ensures)

pub returns : goal.returns
returns c =
    let a = c.args in
    let xs = a.octets.now in
    let left = c.if-at-end.false in
    let sign = c.sign_at-sign in
    let long : c.put-past.result - a.here ≡ length (octets_of sign.result.points) = omega (arith, c.put-past.ensures.value) in
    let told : step sign.result.wide (c.put-past.result - a.here) c.number.result ≡ of_sign sign.result = rw (long, c.number.ensures.0) in
    let face = ap (λ (x : Sign). octets_of x.points) sign.ensures ∙ sym (sign_text (number_of a.set) xs a.at _ c.put_plain-end.ensures.value left) in
    let before = c.put_plain-end.ensures.out_after ∙ ap (sets a.out.now a.here) (no_run (number_of a.set) xs a.at _ c.put_plain-end.ensures.value left) in record { value = told ∙ (ap of_sign sign.ensures ∙ sign-step (number_of a.set) xs a.at _ c.put_plain-end.ensures.value left); out_after = c.put-past.ensures.out_after ∙ rw (before, face) }
