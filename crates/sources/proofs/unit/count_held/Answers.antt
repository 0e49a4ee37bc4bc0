-- `sources::unit::count_held` meets its contract: one piece, or the pieces of a run.
use mathlib.Core.Path.{ap, sym, subst, ◌∙◌}
use lib.ListN.{length}
use Rattle.letters.specs.declared.Held.{Held}
use Rattle.sources.specs.Steps.{held_places, HeldHere}
use Rattle.sources.proofs.unit.count_held.Goals as goal

pub count_places-requires : goal.count_places-requires
count_places-requires c = subst (HeldHere c.args.s.now) c.in-Pieces.is c.requires

pub returns-in-Part : goal.returns-in-Part
returns-in-Part c =
    let a = c.args in
    c.count_piece.ensures ∙ sym (ap (λ (held : Held). length (held_places a.s.now held)) c.in-Part.is)

pub returns-in-Pieces : goal.returns-in-Pieces
returns-in-Pieces c =
    let a = c.args in
    c.count_places.ensures ∙ sym (ap (λ (held : Held). length (held_places a.s.now held)) c.in-Pieces.is)
