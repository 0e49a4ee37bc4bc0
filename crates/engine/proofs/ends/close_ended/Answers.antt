-- `close_ended`: each turn closes the innermost open item, as `settle` does.
use mathlib.Core.Path.{◌≡◌, ap, ◌∙◌}
use Prim.Native.Nat.{ℕ, ◌+◌, ◌-◌}
use native.Mathlib.Omega.{arith}
use Rattle.blocks.specs.Engine.{settle}
use Rattle.engine.specs.Stored.{opens_of}
use Rattle.engine.proofs.Stores.{settle-going, settle-unclosed, settle-ended}
use Rattle.engine.proofs.ends.close_ended.Goals as goal

pub loop-i-preserved : goal.loop-i-preserved
loop-i-preserved c =
    let a = c.args in
    let l = c.loop-i in
    (omega arith, λ k. l.invariant.1 k ∙ settle-ended l.i a.ends.now c.loop-i-test.true a.at k c.if-at-e.false c.if-e-eq1.false)

pub returns-then-at-e : goal.returns-then-at-e
returns-then-at-e c =
    let a = c.args in
    let l = c.loop-i in
    let same : l.i - 1 + 1 ≡ l.i = omega arith in
    (omega arith, λ k. rw same (l.invariant.1 k ∙ settle-going l.i a.ends.now c.loop-i-test.true a.at k c.if-at-e.true))

pub returns-then-e-eq1 : goal.returns-then-e-eq1
returns-then-e-eq1 c =
    let a = c.args in
    let l = c.loop-i in
    (omega arith, λ k. l.invariant.1 k ∙ settle-unclosed l.i a.ends.now c.loop-i-test.true a.at k c.if-at-e.false c.if-e-eq1.true)

pub returns : goal.returns
returns c =
    let a = c.args in
    let none : c.loop-i.i ≡ 0 = omega arith in
    (omega arith, λ k. c.loop-i.invariant.1 k ∙ ap (λ (n : ℕ). settle k (opens_of n a.ends.now) a.at) none)
