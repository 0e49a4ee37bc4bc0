-- `headers::definite_at` meets its contract: the tests that led to each return say which case of `definite_at` holds.
use Prim.Native.Nat.{◌+◌, ◌≤◌, ◌<◌}
use mathlib.Core.Path.{◌∙◌, sym}
use borrow.Author.Tests.{le-leb, lt-leb}
use native.Mathlib.Omega.{arith}
use Rattle.headers.specs.Head.{definite_at}
use Rattle.headers.proofs.definite_at.Goals as goal

pub returns-then-limit-start : goal.returns-then-limit-start
unfolding definite_at
returns-then-limit-start c =
    let a = c.args in
    let h : a.limit < a.start + a.len = omega arith in
    simp (lt-leb _ _ h)

pub returns-then-is_misfit : goal.returns-then-is_misfit
unfolding definite_at
returns-then-is_misfit c =
    let a = c.args in
    let h : a.start + a.len ≤ a.limit = omega arith in
    simp (le-leb _ _ h, sym c.is_misfit.ensures ∙ c.if-is_misfit.true)

pub returns : goal.returns
unfolding definite_at
returns c =
    let a = c.args in
    let h : a.start + a.len ≤ a.limit = omega arith in
    simp (le-leb _ _ h, sym c.is_misfit.ensures ∙ c.if-is_misfit.false, c.number_of.ensures)
