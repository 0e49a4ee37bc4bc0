-- `arrived`: its tests are those of `arrive`, and `close_ended` is `settle`.
use mathlib.Core.Path.{refl}
use native.Mathlib.Omega.{arith}
use borrow.Author.Tests.{eq-eqb, ne_eqb}
use Rattle.engine.proofs.header.arrived.Goals as goal

pub returns-then-b : goal.returns-then-b
returns-then-b c =
    let b = c.args.b in
    let p = c.requires in
    record { state = rw (eq-eqb b.number 0 p.0, ne_eqb b.at b.taken c.if-b.true); depth = p.1; kept = omega arith; headers = refl }

pub returns-in-Ok : goal.returns-in-Ok
returns-in-Ok c =
    let b = c.args.b in
    let (depth, settle) = c.in-Ok.ensures in
    record {
      state = rw (eq-eqb b.at b.taken (omega arith), settle b.headers, eq-eqb b.number 0 c.requires.0);
      depth = depth;
      kept = omega arith;
      headers = refl;
    }

pub returns-in-Err : goal.returns-in-Err
returns-in-Err c =
    let b = c.args.b in
    let (depth, settle) = c.in-Err.ensures in
    record { state = rw (eq-eqb b.at b.taken (omega arith), settle b.headers); depth = depth; kept = omega arith; headers = refl }
