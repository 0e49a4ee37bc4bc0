-- `elements::frames::seal_alone` meets its contract: by whether an item of the run has the octet of a seal in pieces.
use mathlib.Core.Path.{refl}
use Rattle.elements.proofs.Holding.{sealed-alone, unsealed-alone}
use Rattle.elements.proofs.Zero.{zero-lacked}
use Rattle.elements.proofs.frames.seal_alone.Goals as goal

pub returns-then-shape-eq0 : goal.returns-then-shape-eq0
returns-then-shape-eq0 c =
    unsealed-alone (zero-lacked c.args.shape.seal c.if-shape-eq0.true c.requires.0)

pub are_pieces-requires : goal.are_pieces-requires
are_pieces-requires c =
    (c.in-Some.ensures.inner_fine, refl, refl)

pub returns-in-Some : goal.returns-in-Some
returns-in-Some c =
    sealed-alone c.requires.1 c.in-Some.ensures c.are_pieces.ensures

pub returns-in-None : goal.returns-in-None
returns-in-None c =
    unsealed-alone c.in-None.ensures
