-- `rows::lookup::is_short` meets its contract. The loop's invariant: what is left may have as many rows as there are turns left.
use lib.ListN.{get_or}
use Prim.Native.Nat.{◌-◌}
use Rattle.rows.specs.Lookup.{AtMost, longest_chain}
use Rattle.rows.proofs.Links.{Walks}
use Rattle.rows.proofs.lookup.is_short.Given as goal

abbrev pub invariant-loop : goal.invariant-loop
invariant-loop l =
    Walks l.head l.next l.n l.link × (AtMost l.next (longest_chain - l.counter) l.link → AtMost l.next 7 (get_or l.head l.bucket 0))
