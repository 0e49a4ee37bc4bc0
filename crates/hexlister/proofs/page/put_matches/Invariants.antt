-- `page::put_matches` meets its contract. The loop's invariant: the lines of the records so far are put.
use Prim.Native.Nat.{◌*◌}
use mathlib.Core.Path.{◌≡◌}
use lib.ListN.{length, take}
use Rattle.hexlister.specs.Output.{match_lines}
use Rattle.hexlister.specs.Pages.{line_room, PutsOnPage}
use Rattle.hexlister.proofs.page.put_matches.Given as goal

abbrev pub invariant-loop-i : goal.invariant-loop-i
invariant-loop-i l = (length l.page ≡ length l.initial.page)
    × PutsOnPage (match_lines l.side (take l.i l.records)) l.initial.page l.at l.here l.page (line_room * l.i)
