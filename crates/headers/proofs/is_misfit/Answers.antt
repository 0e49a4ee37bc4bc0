-- `octets::misfit` meets its contract: each arm is a case of `misfits`.
use mathlib.Core.Path.{◌≡◌}
use mathlib.Core.Logic.{◌⊎◌, inl, inr}
use Prim.Native.Nat.{ℕ}
use lib.Dec.{eqb}
use borrow.Author.Tests.{ne_eqb}
use Rattle.headers.specs.Head.{misfits}
use Rattle.headers.proofs.is_misfit.Goals as goal

two-or-ten : (o n : ℕ) → (o ≡ 2) ⊎ (o ≡ 10) → eqb n 0 ≡ misfits o n
unfolding misfits
two-or-ten o n (inl e) = simp e
two-or-ten o n (inr e) = simp e

pub returns-in-1 : goal.returns-in-1
unfolding misfits
returns-in-1 c = simp c.in-1.is

pub returns-in-5 : goal.returns-in-5
unfolding misfits
returns-in-5 c = simp c.in-5.is

pub returns-in-2 : goal.returns-in-2
unfolding misfits
returns-in-2 c = two-or-ten c.args.code c.args.len c.in-2.is

pub returns-in_default : goal.returns-in_default
unfolding misfits
returns-in_default c = simp (
  ne_eqb _ _ c.in_default.in_default-own.rest.0.0.1,
  ne_eqb _ _ c.in_default.in_default-own.rest.0.1,
  ne_eqb _ _ (λ e. c.in_default.in_default-own.rest.1 (inl e)),
  ne_eqb _ _ (λ e. c.in_default.in_default-own.rest.1 (inr e)),
)
