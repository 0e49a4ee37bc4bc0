-- `names::is_portion` meets its contract. The loop's invariant: the whole is a portion number exactly if what is left are digits.
use Rattle.std.proofs.Common.{◌≡◌, drop}
use Rattle.names.specs.Names.{all_digits, is_portion}
use Rattle.names.proofs.is_portion.Given as goal

abbrev pub invariant-loop-byte : goal.invariant-loop-byte
invariant-loop-byte l = is_portion l.name ≡ all_digits (drop l.byte-index l.name)
