-- `pm1::count_pages` meets its contract. The loop's invariant: those that are counted, and then those of the rows that are left, are all.
use mathlib.Core.Path.{◌≡◌}
use Prim.Native.Nat.{◌+◌, ◌-◌, ◌≤◌}
use Rattle.pm1.specs.ByTable.{pages_among}
use Rattle.pm1.proofs.count_pages.Given as goal

abbrev pub invariant-loop-j : goal.invariant-loop-j
invariant-loop-j l = record {
  few : l.count ≤ l.j;
  counted : l.count + pages_among l.table l.j (l.elements - l.j) ≡ pages_among l.table 0 l.elements;
}
