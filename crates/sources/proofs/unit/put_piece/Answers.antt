-- `sources::unit::put_piece` meets its contract: by whether it has octets.
use mathlib.Core.Path.{ap}
use native.Mathlib.Omega.{arith}
use lib.ListN.{length}
use Rattle.sources.proofs.Holders.{one_place, no_place, puts-same, puts_one, puts_none}
use Rattle.sources.proofs.unit.put_piece.Goals as goal

pub put_source-requires : goal.put_source-requires
put_source-requires c =
    omega (arith, ap length (one_place c.args.first c.args.past c.if-first-past.true), c.requires.1)

pub returns-then-first-past : goal.returns-then-first-past
returns-then-first-past c =
    let a = c.args in
    let one = one_place a.first a.past c.if-first-past.true in
    let room = ap length one in
    let told = puts-same a.line 3 _ _ a.list.now c.put_source.new.list one
    (puts_one a.line a.first a.past a.list.now c.put_source.new.list (omega (arith, c.requires.1)) c.put_source.ensures) in
    record { value = told.0; list_after = told.1 }

pub returns : goal.returns
returns c =
    let a = c.args in
    let told = puts-same a.line 0 _ _ _ _ (no_place a.first a.past c.if-first-past.false) (puts_none a.line a.list.now) in
    record { value = told.0; list_after = told.1 }
