-- `sources::unit::put_held` meets its contract: one piece, or the pieces of a run.
use mathlib.Core.Path.{ap, subst}
use native.Mathlib.Omega.{arith}
use lib.ListN.{length}
use Rattle.letters.specs.declared.Held.{Held}
use Rattle.sources.specs.Steps.{held_places, HeldHere}
use Rattle.sources.proofs.Holders.{puts-same}
use Rattle.sources.proofs.unit.put_held.Goals as goal

pub put_piece-requires : goal.put_piece-requires
put_piece-requires c =
    let s = c.args.s.now in
    let here = subst (HeldHere s) c.in-Part.is c.requires.held_here.0 in
    (omega (arith, here, c.requires.held_here.1), omega (arith, ap (λ (held : Held). length (held_places s held)) c.in-Part.is, c.requires.held_in_bounds))

pub put_places-requires : goal.put_places-requires
put_places-requires c =
    let s = c.args.s.now in
    record {
      fine = (subst (HeldHere s) c.in-Pieces.is c.requires.held_here.0, c.requires.held_here.1);
      r_in_bounds = omega (arith, ap (λ (held : Held). length (held_places s held)) c.in-Pieces.is, c.requires.held_in_bounds);
    }

pub returns-in-Part : goal.returns-in-Part
returns-in-Part c =
    let a = c.args in
    let put = c.put_piece in
    let told = puts-same a.line put.result _ _ _ _ (ap (held_places a.s.now) c.in-Part.is) (put.ensures.value, put.ensures.list_after) in
    record { value = told.0; list_after = told.1 }

pub returns-in-Pieces : goal.returns-in-Pieces
returns-in-Pieces c =
    let a = c.args in
    let put = c.put_places in
    let told = puts-same a.line put.result _ _ _ _ (ap (held_places a.s.now) c.in-Pieces.is) (put.ensures.value, put.ensures.list_after) in
    record { value = told.0; list_after = told.1 }
