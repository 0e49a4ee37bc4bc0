-- `turn`: each of the three cases is one of `Turning`.
use mathlib.Core.Path.{◌≡◌}
use native.Mathlib.Omega.{arith}
use Rattle.engine.proofs.Turning.{counted-turn, passed-turn, header-turned}
use Rattle.engine.proofs.turn.turn.Goals as goal

pub returns-then-b-ne0 : goal.returns-then-b-ne0
returns-then-b-ne0 c =
    let a = c.args in
    let e = c.counted.ensures in (
      c.requires.1,
      counted-turn a.b a.block.now a.i c.requires.1 c.requires.2 c.counted.result (λ z. omega (arith, c.if-b-ne0.true)) e.1 e.0,
    )

pub passed-requires : goal.passed-requires
passed-requires c =
    let z : c.args.b.number ≡ 0 = omega arith in
    (c.requires.0 z, z, c.requires.1, c.requires.2, omega arith)

pub returns-then-b : goal.returns-then-b
returns-then-b c =
    let a = c.args in
    let z : a.b.number ≡ 0 = omega arith in
    let e = c.passed.ensures in (
      e.0,
      passed-turn a.b a.block.now a.i c.requires.1 c.requires.2 c.passed.result.state c.passed.result.to z e.0 e.1 e.2 e.3 e.4,
    )

pub header_turn-requires : goal.header_turn-requires
header_turn-requires c =
    let z : c.args.b.number ≡ 0 = omega arith in
    (c.requires.0 z, z, omega arith, omega arith)

pub returns : goal.returns
returns c =
    let a = c.args in
    let e = c.header_turn.ensures in
    (omega arith, header-turned a.b a.block.now a.i c.requires.1 c.requires.2 c.header_turn.result e.0 e.1)
