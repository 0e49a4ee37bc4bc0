-- `sources::count_places` meets its contract. The loop's invariant: the places of the run are those counted and those of what is left of it. The function
-- ends, for each call has fewer levels left.
use mathlib.Core.Path.{◌≡◌}
use Prim.Native.Nat.{◌+◌, ◌-◌}
use lib.ListN.{length}
use Rattle.runs.specs.Runs.{items_of, Fine}
use Rattle.sources.specs.Places.{places_of}
use Rattle.sources.proofs.+count_places.Given as goal

abbrev pub decreases-count_places : goal.decreases-count_places
decreases-count_places l = l.r.room

abbrev pub invariant-loop-item : goal.invariant-loop-item
invariant-loop-item l = Fine l.s l.cur × (l.cur.room ≡ l.initial.cur.room)
    × (length (places_of (items_of l.s l.initial.cur)) ≡ l.n + length (places_of (items_of l.s l.cur)))

abbrev pub decreases-loop-item : goal.decreases-loop-item
decreases-loop-item l = l.cur.limit - l.cur.at
