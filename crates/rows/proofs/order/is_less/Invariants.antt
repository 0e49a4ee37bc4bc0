-- `rows::order::is_less` meets its contract. The loop's invariant: the whole is in the order that what is left is, and both have lost as much.
use Rattle.std.proofs.Common.{◌≡◌, ◌+◌, length}
use Rattle.rows.specs.Order.{less}
use Rattle.rows.proofs.order.is_less.Given as goal

abbrev pub invariant-loop-x : goal.invariant-loop-x
invariant-loop-x l =
    let a = l.x-iterator.a.rest.now in
    let b = l.x-iterator.b.rest.now in
    (length l.a + length b ≡ length l.b + length a) × (less l.a l.b ≡ less a b)
