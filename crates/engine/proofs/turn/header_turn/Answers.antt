-- `header_turn`: one octet is counted, and is one of a header.
use mathlib.Core.Path.{◌≡◌, ap, sym, ◌∙◌}
use Prim.Native.Nat.{◌+◌}
use native.Mathlib.Omega.{arith}
use Rattle.blocks.specs.Engine.{State}
use Rattle.engine.proofs.Turning.{header-step}
use Rattle.engine.proofs.turn.header_turn.Goals as goal

pub returns : goal.returns
returns c =
    let b = c.args.b in
    let f = c.requires.0 in
    let e = c.header_octet.ensures in
    let total : c.header_octet.result.total ≡ b.total = ap (λ (t : State). t.total) e.0 in
    let taken : c.header_octet.result.taken ≡ b.taken + 1 = ap (λ (t : State). t.taken) e.0 in
    let counted = f.counted in
    let small = f.small in
    (λ z. record { depth = e.1; kept = e.2; counted = omega arith; small = omega arith }, e.0 ∙ sym (header-step b c.args.octet c.requires.1 c.requires.3))
