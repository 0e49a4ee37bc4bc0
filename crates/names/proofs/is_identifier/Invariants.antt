-- `names::is_identifier` meets its contract. The loop's invariant: the whole is an identifier exactly if what is left goes on well grouped.
use Rattle.std.proofs.Common.{◌≡◌, drop}
use Rattle.names.specs.Names.{grouped, is_identifier}
use Rattle.names.proofs.is_identifier.Given as goal

abbrev pub invariant-loop-byte : goal.invariant-loop-byte
invariant-loop-byte l = is_identifier l.name ≡ grouped l.in_group (drop l.byte-index l.name)
