-- `names::hash_over` meets its contract: the hash so far, after what is left, is the hash of the whole.
use Rattle.std.proofs.Common.{◌≡◌, ◌<◌, drop}
use Rattle.names.specs.Hash.{hashes, hash_from}
use Rattle.names.proofs.hash_over.Given as goal

abbrev pub invariant-loop-byte : goal.invariant-loop-byte
invariant-loop-byte l = (l.r < hashes) × (hash_from l.h l.bytes ≡ hash_from l.r (drop l.byte-index l.bytes))
