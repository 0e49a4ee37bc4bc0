-- `characters::write` meets its contract: what is written from the start on is what is written and that from here on.
use Prim.Native.Nat.{◌+◌, ◌<◌}
use native.Mathlib.Omega.{arith}
use mathlib.Core.Path.{◌≡◌, refl, sym, ap, ◌∙◌}
use lib.ListN.{length, drop}
use lib.Seq.{sets}
use Rattle.characters.specs.Sets.{number_of}
use Rattle.characters.specs.Signs.{signs, utf8_of}
use Rattle.characters.specs.Steps.{step_at, step_text}
use Rattle.characters.proofs.Utf8.{join}
use Rattle.characters.proofs.Next.{text-end}
use Rattle.characters.proofs.Going.{goes, size-left}
use Rattle.characters.proofs.write.Goals as goal

pub put_step-step-requires : goal.put_step-step-requires
put_step-step-requires c =
    let l = c.loop-at in
    let a = c.args in
    let pre = c.requires in
    let xs = a.octets.now in
    let within : l.at < length xs = omega arith in
    let g = goes (number_of a.set) xs l.at within (step_at (number_of a.set) xs l.at) refl in
    (pre.0, within, omega (arith, pre.1, l.invariant.1, l.invariant.2, g.long, size-left (number_of a.set) xs l.at (step_at (number_of a.set) xs l.at) g))

pub overflow_add-here : goal.overflow_add-here
overflow_add-here c =
    let l = c.loop-at in
    let a = c.args in
    let pre = c.requires in
    let xs = a.octets.now in
    let within : l.at < length xs = omega arith in
    let g = goes (number_of a.set) xs l.at within c.put_step-step.result c.put_step-step.ensures.value in
    omega (arith, pre.1, l.invariant.2, size-left (number_of a.set) xs l.at c.put_step-step.result g)

pub overflow_add-at : goal.overflow_add-at
overflow_add-at c =
    let l = c.loop-at in
    let a = c.args in
    let xs = a.octets.now in
    let within : l.at < length xs = omega arith in
    omega (arith, (goes (number_of a.set) xs l.at within c.put_step-step.result c.put_step-step.ensures.value).within)

pub loop-at-smaller : goal.loop-at-smaller
loop-at-smaller c =
    let l = c.loop-at in
    let a = c.args in
    let xs = a.octets.now in
    let within : l.at < length xs = omega arith in
    let g = goes (number_of a.set) xs l.at within c.put_step-step.result c.put_step-step.ensures.value in
    omega (arith, g.forward, g.within)

pub loop-at-preserved : goal.loop-at-preserved
loop-at-preserved c =
    let l = c.loop-at in
    let a = c.args in
    let xs = a.octets.now in
    let within : l.at < length xs = omega arith in
    let g = goes (number_of a.set) xs l.at within c.put_step-step.result c.put_step-step.ensures.value in
    let text = step_text (number_of a.set) xs l.at in
    let rest = utf8_of (signs (number_of a.set) (drop (l.at + c.put_step-step.result.wide) xs)) in
    let past : l.here + c.put_step-step.result.length ≡ l.here + length text = ap (λ n. l.here + n) (sym g.long) in (
      omega (arith, g.within),
      c.put_step-step.auto.out ∙ l.invariant.1,
      omega (arith, l.invariant.2, size-left (number_of a.set) xs l.at c.put_step-step.result g),
      rw c.put_step-step.ensures.out_after (join l.out l.here _ text rest past ∙ (ap (sets l.out l.here) (sym g.text) ∙ l.invariant.3)),
    )

pub returns : goal.returns
returns c =
    let l = c.loop-at in
    let a = c.args in
    let xs = a.octets.now in
    ap (sets l.out l.here) (sym (text-end (number_of a.set) xs l.at c.loop-at-test.false)) ∙ l.invariant.3
