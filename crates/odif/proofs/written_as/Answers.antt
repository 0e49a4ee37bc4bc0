-- `odif::written_as` meets its contract: each case of the writer's answer, in numbers that fit.
use mathlib.Core.Path.{ap, sym, subst}
use native.Mathlib.Omega.{arith}
use Rattle.normal.specs.Writes.{Answer}
use Rattle.answers.specs.Asking.{written_as}
use Rattle.odif.proofs.Writing.{Fits}
use Rattle.odif.proofs.written_as.Goals as goal

pub overflow_cast-result : goal.overflow_cast-result
overflow_cast-result c =
    let fits = subst (λ (x : Answer). Fits (written_as x)) c.in-Ok.is c.requires in
    omega (arith, fits.1.1)

pub overflow_cast-result-in-Err : goal.overflow_cast-result-in-Err
overflow_cast-result-in-Err c =
    let fits = subst (λ (x : Answer). Fits (written_as x)) c.in-Err.is c.requires in
    omega (arith, fits.0)

pub overflow_cast-result-in-Err-2 : goal.overflow_cast-result-in-Err-2
overflow_cast-result-in-Err-2 c =
    let fits = subst (λ (x : Answer). Fits (written_as x)) c.in-Err.is c.requires in
    omega (arith, fits.1.0)

pub returns-in-Ok : goal.returns-in-Ok
returns-in-Ok c = sym (ap written_as c.in-Ok.is)

pub returns-in-Err : goal.returns-in-Err
returns-in-Err c = sym (ap written_as c.in-Err.is)
