-- `names::is_same` meets its contract. The loop's invariant: the whole is the same on both sides exactly if what is left is.
use Rattle.std.proofs.Common.{◌≡◌, length}
use Rattle.names.specs.Names.{same}
use Rattle.names.proofs.is_same.Given as goal

abbrev pub invariant-loop-x : goal.invariant-loop-x
invariant-loop-x l =
    let a = l.x-iterator.a.rest.now in
    let b = l.x-iterator.b.rest.now in
    (length a ≡ length b) × (same l.a l.b ≡ same a b)
