-- `read_input` meets its contract. The loop's invariant: reading stands where the blocks so far lead, and they are the first of the reader's bytes.
-- The measure is the count of turns.
use native.Mathlib.Omega.{arith}
use mathlib.Core.Path.{ap}
use Rattle.hexlister.specs.Inputs.{state_after}
use Rattle.hexlister.proofs.Inputs.{heard-of, heard-nothing, heard-more, prints-known}
use Rattle.hexlister.proofs.read_input.Goals as goal

pub loop-turns-init : goal.loop-turns-init
loop-turns-init g c = heard-nothing _ _ c.start-state.ensures

pub loop-turns-preserved : goal.loop-turns-preserved
loop-turns-preserved g c =
    heard-more _ c.loop-turns.invariant c.read-got.ensures.bound c.read-got.ensures.bytes c.take_in.ensures (ap (state_after c.loop-turns.state) c.in-More.is)

pub returns-in-Over : goal.returns-in-Over
returns-in-Over g c = record {
  heard = heard-of (heard-more _ c.loop-turns.invariant c.read-got.ensures.bound c.read-got.ensures.bytes c.take_in.ensures
      (ap (state_after c.loop-turns.state) c.in-Over.is));
  printed = prints-known _ _ _ _ c.told-octets c.loop-turns.invariant c.read-got.ensures.bound c.read-got.ensures.bytes (omega arith) c.take_in.ensures c.in-Over.is;
}
