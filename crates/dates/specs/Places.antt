-- The items on the way to a date, with their places: what the pass over a run finds. `dates-places` (proofs/Trees) shows that they are the items of the tree.
use Rattle.std.specs.Prelude.{ℕ, cond, List, [], ◌∷◌, ◌++◌, eqb}
use Rattle.octets.specs.Walk.{Items, no_items, item}

-- an item [0], with the bounds of its value if it is primitive
pub data Place : Type 0 where
  bounds : (first past : ℕ) → Place
  no_bounds : Place

-- an item, if it is [0]
abbrev pub zero_at : (code first past : ℕ) → List Place
zero_at code first past = cond (eqb code 0x80) (bounds first past ∷ []) (cond (eqb code 0xA0) (no_bounds ∷ []) [])

-- the items [0] of a run
unfoldable pub zeros_at : Items → List Place
zeros_at no_items = []
zeros_at (item at code first past inside after) = zero_at code first past ++ zeros_at after

-- what is listed of the run in each item with the octet
unfoldable pub in_each_at : (octet : ℕ) → (Items → List Place) → Items → List Place
in_each_at octet list no_items = []
in_each_at octet list (item at type first past inside after) = cond (eqb type octet) (list inside) [] ++ in_each_at octet list after
