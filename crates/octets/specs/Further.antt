-- More of the walk: one item alone, by which the first date is defined (W-206).
use Rattle.std.specs.Prelude.{ℕ, ◌+◌, ◌-◌, false, List, leb, Ok, Err}
use Rattle.headers.specs.Head.{head_at}
use Rattle.octets.specs.Told.{Outcome}
use Rattle.octets.specs.Walk.{Walked, run, step, ended}

-- the item at `at` alone, with nothing walked after it
unfoldable pub one_of : (room : ℕ) → List ℕ → (at limit : ℕ) → Walked
one_of room s at limit =
    step (leb limit at) at limit false (head_at s at limit false room)
    (λ h. run (room - 1) s h.start h.bound h.marked)
    (λ next. ended next)

-- an outcome with n headers more, which were passed before
abbrev pub plus : ℕ → Outcome → Outcome
plus n (Ok e) = Ok (record { at = e.at; count = n + e.count })
plus n (Err r) = Err (record { number = r.number; place = r.place; count = n + r.count })
