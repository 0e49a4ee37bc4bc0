-- `page::put_elements` meets its contract. The loop's invariant: the lines of the rows so far are put.
use Prim.Native.Nat.{◌*◌}
use mathlib.Core.Path.{◌≡◌}
use lib.ListN.{length}
use Rattle.hexlister.specs.Pages.{line_room, PutsOnPage, row_lines}
use Rattle.hexlister.proofs.page.put_elements.Given as goal

abbrev pub invariant-loop-i : goal.invariant-loop-i
invariant-loop-i l = (length l.page ≡ length l.initial.page)
    × PutsOnPage (row_lines l.table 0 l.i) l.initial.page l.at l.here l.page (line_room * l.i)
