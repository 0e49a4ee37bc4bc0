-- `big_endian` meets its contract: after i turns n is the number of the first i octets.
use Rattle.std.proofs.Common.{◌≡◌, ◌<◌, ◌≤◌, ◌^◌, length, take}
use Rattle.headers.specs.Head.{big_endian}
use Rattle.headers.proofs.big_endian.Given as goal

abbrev pub invariant-loop-octet : goal.invariant-loop-octet
invariant-loop-octet l = (length l.octet-items ≤ 4) × (l.n ≡ big_endian (take l.octet-index l.octet-items)) × (l.n < 256 ^ l.octet-index)
