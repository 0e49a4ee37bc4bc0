-- The value of one item, as the code walks it.
use Rattle.std.specs.Prelude.{ℕ, ◌-◌, List}
use Rattle.headers.specs.declared.Header.{Header}
use Rattle.headers.specs.Head.{constructed}
use Rattle.octets.specs.Walk.{Walked, value, run}

-- the value of the item with the header h, which is at the first of room levels
unfoldable pub value_of : (room : ℕ) → List ℕ → Header → Walked
value_of room s h = value (constructed h.code) h (λ g. run (room - 1) s g.start g.bound g.marked)
