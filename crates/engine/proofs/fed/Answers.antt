-- `fed`: what is left to take of the block stays the same, turn by turn, and at its end is nothing.
use mathlib.Core.Path.{◌≡◌, refl, ap, sym, ◌∙◌}
use mathlib.Core.List.{[]}
use Prim.Native.Nat.{ℕ}
use native.Mathlib.Omega.{arith}
use lib.ListN.{length, drop}
use lib.Seq.{drop-length}
use Rattle.blocks.specs.Engine.{feed}
use Rattle.engine.specs.Stored.{state_of}
use Rattle.engine.proofs.fed.Goals as goal

pub skim_block-first-requires : goal.skim_block-first-requires
skim_block-first-requires c =
    (c.requires.0, omega arith, omega arith, omega arith)

pub loop-i-init : goal.loop-i-init
loop-i-init c =
    let k = c.skim_block-first.ensures in
    let total = k.total in
    (k.within, k.fits, k.fine, omega arith, refl)

pub turn-m-requires : goal.turn-m-requires
turn-m-requires c =
    let l = c.loop-i in
    (l.invariant.2, omega arith, l.invariant.1)

pub skim_block-k-requires : goal.skim_block-k-requires
skim_block-k-requires c =
    let t = c.turn-m.ensures.1 in
    let l = c.loop-i.invariant in
    let total = t.total in
    let enough = l.3 in
    (t.fine, t.within, t.fits, omega arith)

pub loop-i-smaller : goal.loop-i-smaller
loop-i-smaller c =
    let t = c.turn-m.ensures in
    let k = c.skim_block-k.ensures in
    omega (arith, t.0, k.further, k.within)

pub loop-i-preserved : goal.loop-i-preserved
loop-i-preserved c =
    let t = c.turn-m.ensures.1 in
    let k = c.skim_block-k.ensures in
    let l = c.loop-i.invariant in
    let one = t.total in
    let two = k.total in
    let enough = l.3 in
    (k.within, k.fits, k.fine, omega arith, l.4 ∙ t.state ∙ k.state)

pub returns : goal.returns
returns c =
    let l = c.loop-i in
    let block = c.args.block.now in
    let e : l.i ≡ length block = omega arith in
    let d : drop l.i block ≡ [] = ap (λ (n : ℕ). drop n block) e ∙ drop-length block in
    (l.invariant.2, sym (c.skim_block-first.ensures.state ∙ l.invariant.4 ∙ ap (feed (state_of l.s)) d))
