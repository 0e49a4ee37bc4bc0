-- `characters::steps::plain_end` meets its contract: the run from a place on is the octet there and the run past it.
use Prim.Native.Nat.{◌≤◌, ◌<◌}
use native.Mathlib.Omega.{arith}
use mathlib.Core.Path.{sym, ap, ◌∙◌}
use lib.ListN.{length}
use Rattle.characters.proofs.Going.{front-more, front-stops, front_ends}
use Rattle.characters.proofs.steps.plain_end.Goals as goal

pub returns-then-not-is_plain : goal.returns-then-not-is_plain
returns-then-not-is_plain c =
    let l = c.loop-end in
    let xs = c.args.octets.now in
    let within : l.end < length xs = omega arith in
    let no = sym c.is_plain.ensures ∙ c.if-not-is_plain.true in
    omega (arith, l.invariant, ap length (front-stops xs l.end within no))

pub loop-end-preserved : goal.loop-end-preserved
loop-end-preserved c =
    let l = c.loop-end in
    let xs = c.args.octets.now in
    let within : l.end < length xs = omega arith in
    let so = sym c.is_plain.ensures ∙ c.if-not-is_plain.false in
    omega (arith, l.invariant, ap length (front-more xs l.end within so))

pub returns : goal.returns
returns c =
    let l = c.loop-end in
    let xs = c.args.octets.now in
    let past : length xs ≤ l.end = omega arith in
    omega (arith, l.invariant, ap length (front_ends xs l.end past))
