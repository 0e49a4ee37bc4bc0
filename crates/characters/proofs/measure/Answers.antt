-- `characters::measure` meets its contract: the sizes from the start on are what is counted and those from here on.
use Prim.Native.Nat.{◌≤◌, ◌<◌}
use native.Mathlib.Omega.{arith}
use mathlib.Core.Path.{ap}
use lib.ListN.{length}
use borrow.Author.Tests.{lt-leb}
use Rattle.characters.specs.Sets.{number_of}
use Rattle.characters.specs.Signs.{signs, utf8_of}
use Rattle.characters.proofs.Next.{text-end, numbers-end}
use Rattle.characters.proofs.Going.{goes, size-left}
use Rattle.characters.proofs.Answers.{measured-fits}
use Rattle.characters.proofs.measure.Goals as goal

pub returns-then-room-here : goal.returns-then-room-here
returns-then-room-here c =
    let l = c.loop-at in
    let a = c.args in
    let xs = a.octets.now in
    let within : l.at < length xs = omega arith in
    let step = c.step_at-step in
    let g = goes (number_of a.set) xs l.at within step.result step.ensures in
    let total = length (utf8_of (signs (number_of a.set) xs)) in
    let short : a.room < total = omega (arith, l.invariant.3, size-left (number_of a.set) xs l.at step.result g, c.if-room-here.true) in
    rw (lt-leb total a.room short)

pub overflow_add-numbers : goal.overflow_add-numbers
overflow_add-numbers c =
    let l = c.loop-at in
    let a = c.args in
    let xs = a.octets.now in
    let within : l.at < length xs = omega arith in
    let step = c.step_at-step in
    omega (arith, (goes (number_of a.set) xs l.at within step.result step.ensures).few)

pub overflow_add-at : goal.overflow_add-at
overflow_add-at c =
    let l = c.loop-at in
    let a = c.args in
    let xs = a.octets.now in
    let within : l.at < length xs = omega arith in
    let step = c.step_at-step in
    omega (arith, (goes (number_of a.set) xs l.at within step.result step.ensures).within)

pub loop-at-smaller : goal.loop-at-smaller
loop-at-smaller c =
    let l = c.loop-at in
    let a = c.args in
    let xs = a.octets.now in
    let within : l.at < length xs = omega arith in
    let step = c.step_at-step in
    let g = goes (number_of a.set) xs l.at within step.result step.ensures in
    omega (arith, g.forward, g.within)

pub loop-at-preserved : goal.loop-at-preserved
loop-at-preserved c =
    let l = c.loop-at in
    let a = c.args in
    let xs = a.octets.now in
    let within : l.at < length xs = omega arith in
    let step = c.step_at-step in
    let g = goes (number_of a.set) xs l.at within step.result step.ensures in (
      omega (arith, g.within),
      omega (arith, c.if-room-here.false),
      omega (arith, g.few),
      omega (arith, l.invariant.3, size-left (number_of a.set) xs l.at step.result g),
      omega (arith, l.invariant.4, g.counted),
    )

pub returns : goal.returns
returns c =
    let l = c.loop-at in
    let a = c.args in
    let xs = a.octets.now in
    let ended : length xs ≤ l.at = c.loop-at-test.false in
    measured-fits (signs (number_of a.set) xs) a.room l.here l.numbers
    (omega (arith, l.invariant.3, ap length (text-end (number_of a.set) xs l.at ended)))
    (omega (arith, l.invariant.4, numbers-end (number_of a.set) xs l.at ended))
    l.invariant.1
