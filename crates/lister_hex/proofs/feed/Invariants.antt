-- `lister_hex::feed` meets its contract. The loop's invariant: feeding what is left of the block from here is feeding the whole block from the start.
use mathlib.Core.Path.{◌≡◌}
use lib.ListN.{drop}
use Rattle.lister_hex.specs.Blocks.{fed, standing}
use Rattle.lister_hex.proofs.feed.Given as goal

abbrev pub invariant-loop-byte : goal.invariant-loop-byte
invariant-loop-byte l = fed (standing l.here l.out) (drop l.byte-index l.block) ≡ fed (standing l.initial.here l.initial.out) l.block
