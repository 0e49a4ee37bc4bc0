-- `reading::fill` meets its contract. A turn puts one record more.
use mathlib.Core.Path.{sym}
use Prim.Native.Nat.{◌<◌}
use native.Mathlib.Omega.{arith}
use lib.ListN.{length}
use Rattle.reading.proofs.Made.{made_none, made_more}
use Rattle.reading.proofs.fill.Goals as goal

pub loop-k-init : goal.loop-k-init
loop-k-init c = sym (made_none c.args.flat.now c.args.list.now)

pub loop-k-preserved : goal.loop-k-preserved
loop-k-preserved c =
    let a = c.args in
    let below : c.loop-k.k < length a.list.now = omega (arith, c.requires.1) in
    rw (c.loop-k.invariant, c.record_at.ensures) (made_more a.flat.now a.list.now c.loop-k.k below)
