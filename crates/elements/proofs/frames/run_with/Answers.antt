-- `elements::frames::run_with` meets its contract: what is found in the opening is what its run has.
use mathlib.Core.Path.{sym, subst}
use Rattle.elements.specs.Frames.{Inner}
use Rattle.elements.proofs.Bounding.{held_inner, lacked-inner}
use Rattle.elements.proofs.frames.run_with.Goals as goal

pub returns-in-Some : goal.returns-in-Some
returns-in-Some c =
    λ s r opens few p. held_inner (c.in-Some.ensures s r opens few) p

pub returns-in-None : goal.returns-in-None
returns-in-None c =
    let octet = c.args.octet in
    λ s r opens few p.
    subst (Inner s r octet) (sym c.no_run.ensures)
    (lacked-inner (c.in-None.ensures s r opens few))
