-- `rows::lookup::has_room` meets its contract: it asks of the two parts what they are asked as parts of the index.
use mathlib.Core.Path.{◌≡◌}
use mathlib.Core.Bool.{true}
use mathlib.Core.List.{List}
use Prim.Native.Nat.{ℕ}
use native.Mathlib.Omega.{arith}
use lib.ListN.{get_or}
use Rattle.rows.specs.Lookup.{AtMost, Linked}
use Rattle.rows.proofs.Parts.{some_links, heads-count, to-parts, of_parts}
use Rattle.rows.proofs.lookup.has_room.Goals as goal

pub links_begin-links-requires : goal.links_begin-links-requires
links_begin-links-requires c = some_links c.args.index.now c.requires.0.indexed.some_buckets

pub slice_bounds-is_short-end : goal.slice_bounds-is_short-end
slice_bounds-is_short-end c = heads-count c.args.index.now c.links_begin-links.ensures.0

pub is_short-requires : goal.is_short-requires
is_short-requires c =
    let a = c.args in
    let p = c.requires in
    let is = c.links_begin-links.ensures.0 in
    (to-parts a.index.now is (λ (h l : List ℕ). Linked h l a.n) p.0, omega (arith, p.1, is, heads-count a.index.now is))

pub returns : goal.returns
returns c =
    let a = c.args in
    of_parts a.index.now c.links_begin-links.ensures.0 (λ (h l : List ℕ). c.is_short.result ≡ true → AtMost l 7 (get_or h a.bucket 0))
    c.is_short.ensures
