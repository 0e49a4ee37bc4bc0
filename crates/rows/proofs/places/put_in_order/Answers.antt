-- `rows::places::put_in_order` meets its contract: the row goes to the place of its key, once there is room.
use mathlib.Core.Path.{◌≡◌, subst}
use mathlib.Core.List.{List, ◌∷◌}
use Prim.Native.Nat.{ℕ}
use native.Mathlib.Omega.{arith}
use Rattle.rows.specs.Lookup.{key_at, Between}
use Rattle.rows.proofs.Sorted.{ordered-more, put-around}
use Rattle.rows.proofs.Filing.{bounded-front}
use Rattle.rows.proofs.places.put_in_order.Goals as goal

pub place-p-requires : goal.place-p-requires
place-p-requires c = record { bounded = bounded-front (omega arith) c.requires.bounded; ordered = c.requires.ordered }

pub returns : goal.returns
returns c =
    let place = c.place-p in
    let shift = c.shift in
    let a = c.args in
    let key : (c.space_of-space.result ∷ c.value_at.result.now) ≡ key_at a.s.now a.rows.now a.column a.n =
    rw (c.space_of-space.ensures, c.kind_at.ensures, c.value_at.ensures) in
    let w : Between a.s.now a.rows.now a.column a.next.now a.from a.n (key_at a.s.now a.rows.now a.column a.n)
    place.result place.result =
    subst (λ (x : List ℕ). Between a.s.now a.rows.now a.column a.next.now a.from a.n x place.result place.result) key
    place.ensures in
    record { ordered_2 = ordered-more c.requires.ordered c.requires.n_in_bounds.0 w shift.ensures; around = put-around c.requires.ordered c.requires.n_in_bounds.0 w shift.ensures }
