-- `settled`: each return is a case of what closing leaves (`Skimming`).
use mathlib.Core.Path.{sym, subst}
use native.Mathlib.Omega.{arith}
use Rattle.engine.specs.Skimming.{Settles}
use Rattle.engine.proofs.Skimming.{settles-unclosed, settles_on}
use Rattle.engine.proofs.skim.settled.Goals as goal

pub returns-in-Ok : goal.returns-in-Ok
returns-in-Ok c =
    let a = c.args in
    let (depth, settle) = c.in-Ok.ensures in
    settles_on a.seat a.ends.now a.s c.requires (omega arith) (omega arith) c.in-Ok.level c.go_on.result depth c.go_on.ensures (settle a.s.headers)

pub returns-in-Err : goal.returns-in-Err
returns-in-Err c =
    let a = c.args in
    let (_, settle) = c.in-Err.ensures in
    subst (Settles a.seat a.ends.now a.s) (sym c.finding.ensures)
    (settles-unclosed a.seat a.ends.now a.s c.requires (omega arith) (omega arith) c.in-Err.unclosed.place (settle a.s.headers))
