-- `parents::last_space` meets its contract. The loop's invariant: no space stands in what is passed.
use mathlib.Core.Path.{◌≡◌, ap, ◌∙◌}
use mathlib.Core.List.{◌∷◌, ◌++◌}
use Prim.Native.Nat.{ℕ, ◌+◌, ◌-◌, ◌<◌}
use native.Mathlib.Omega.{arith}
use borrow.Author.Tests.{ne_eqb}
use lib.Seq.{slice, slice_empty}
use Rattle.names.proofs.Parts.{slice-more, slice_cut}
use Rattle.contents.specs.Search.{absent}
use Rattle.parents.specs.Parent.{shorter}
use Rattle.parents.proofs.Shorter.{shorter-at, shorter-none, shorter-empty}
use Rattle.parents.proofs.last_space.Goals as goal
use Rattle.parents.proofs.last_space.Goals.{In-loop-at}

-- no space stands after the byte at hand
passed : (c : In-loop-at) →
    let a = c.args in shorter (slice (c.loop-at.at - 1 + 1) a.past a.s.now) ≡ absent
passed c =
    let a = c.args in
    let next : c.loop-at.at - 1 + 1 ≡ c.loop-at.at = omega (arith, c.loop-at-test.true) in
    ap (λ (i : ℕ). shorter (slice i a.past a.s.now)) next ∙ c.loop-at.invariant.1

pub loop-at-init : goal.loop-at-init
loop-at-init c = let a = c.args in (omega arith, ap shorter (slice_empty a.past a.s.now) ∙ shorter-empty)

pub returns-then-s-at-eq-SPACE : goal.returns-then-s-at-eq-SPACE
returns-then-s-at-eq-SPACE c =
    let a = c.args in
    let s = a.s.now in
    let at = c.loop-at.at - 1 in
    let low : at < a.past = omega (arith, c.loop-at-test.true) in
    let cut = slice_cut s a.first at a.past (omega (arith, c.loop-at-test.true)) low (omega arith) in
    let space = c.if-s-at-eq-SPACE.true in
    record {
      after = omega (arith, c.loop-at-test.true);
      before = low;
      cuts = ap shorter (cut ∙ ap (λ (b : ℕ). slice a.first at s ++ b ∷ slice (at + 1) a.past s) space)
          ∙ shorter-at (slice a.first at s) (slice (at + 1) a.past s) (passed (goal.at.returns-then-s-at-eq-SPACE c).In-loop-at);
    }

pub loop-at-preserved : goal.loop-at-preserved
loop-at-preserved c =
    let a = c.args in
    let at = c.loop-at.at - 1 in
    let low : at < a.past = omega (arith, c.loop-at-test.true) in (
      omega (arith, c.loop-at-test.true),
      ap shorter (slice-more a.s.now at a.past low (omega arith)) ∙ shorter-none _ (slice (at + 1) a.past a.s.now) (ne_eqb _ _ c.if-s-at-eq-SPACE.false)
          (passed (goal.at.loop-at-preserved c).In-loop-at),
    )

pub returns : goal.returns
returns c =
    let a = c.args in
    let all : a.first ≡ c.loop-at.at = omega (arith, c.loop-at-test.false) in
    ap (λ (i : ℕ). shorter (slice i a.past a.s.now)) all ∙ c.loop-at.invariant.1
