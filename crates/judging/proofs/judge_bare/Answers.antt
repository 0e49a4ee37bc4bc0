-- `judging::judge_bare` meets its contract: of an element in which nothing stands only 9 to 11 are left to judge.
use mathlib.Core.Path.{◌≡◌, sym, ap, ◌∙◌}
use Prim.Native.Nat.{ℕ}
use lib.ListN.{length}
use Rattle.std.proofs.lemmas.Result.{err_from_is_err_and}
use Rattle.judging.specs.Judges.{early_refusal}
use Rattle.judging.proofs.Bare.{bare-refused, bare-passes}
use Rattle.judging.proofs.judge_bare.Goals as goal
use Rattle.judging.proofs.judge_bare.Goals.{Start}

-- rules 9 to 11, by the number of those that are done
early-is : (c : Start) (k : ℕ) → k ≡ c.args.n
    → early_refusal c.args.n c.args.item.code c.args.item.code ≡ early_refusal k c.args.item.code c.args.item.code
early-is c k e = ap (λ (i : ℕ). early_refusal i c.args.item.code c.args.item.code) (sym e)

pub returns-in_err-early : goal.returns-in_err-early
returns-in_err-early c =
    let p = err_from_is_err_and c.from_residual.result c.from_residual.ensures.1 in
    rw (p.1, p.2) (λ edition s scratch bare inside table done holds.
    let a = c.args in
    let refused = c.in_err-early.ensures in (
      bare-refused edition s done a.item (c.requires.0 edition) bare _
          (refused.refusal ∙ early-is (goal.at.returns-in_err-early c).Start (length done) holds.counted) refused.there,
      refused.there,
    ))

pub returns : goal.returns
returns c =
    let pre = c.requires in
    λ edition s scratch bare inside table done holds.
    let a = c.args in
    bare-passes edition s done a.item (pre.0 edition) bare
    (sym (early-is (goal.at.returns c).Start (length done) holds.counted) ∙ c.in_ok-early.ensures) pre.1 inside
