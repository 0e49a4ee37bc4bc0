-- `rows::places::find_in_order` meets its contract: a row with the name stands right before the place found, or there is none.
use mathlib.Core.Path.{refl}
use Prim.Native.Nat.{◌-◌, ◌<◌}
use native.Mathlib.Omega.{arith}
use lib.ListN.{get_or}
use Rattle.rows.proofs.Finding.{held-true, held-false, none_before, last-below, last_found, none_found}
use Rattle.rows.proofs.places.find_in_order.Goals as goal
use Rattle.rows.proofs.places.find_in_order.Goals.{Else-p-from}

-- the row right before the place is one of those
below : (c : Else-p-from) → get_or c.args.next.now (c.place-p.result - 1) 0 < c.args.n
below c = last-below c.requires.bounded c.requires.ordered c.place-p.ensures c.if-p-from.false

pub returns-then-p-from : goal.returns-then-p-from
returns-then-p-from c =
    none_before c.requires.bounded c.requires.ordered c.place-p.ensures c.if-p-from.true

pub is_held-requires : goal.is_held-requires
is_held-requires c =
    let b = c.requires.bounded in
    let j = get_or c.args.next.now (c.place-p.result - 1) 0 in
    let l : j < c.args.n = below (goal.at.is_held-requires c).Else-p-from in
    record { column_bound = b.in-row; scratch_width_in_bounds = omega (arith, b.in_table); j_bound = b.ordered j l; j_in_bounds = b.inside j l }

pub returns-then-is_held : goal.returns-then-is_held
returns-then-is_held c =
    let l = below (goal.at.returns-then-is_held c).Else-p-from in
    last_found c.requires.bounded c.requires.ordered c.place-p.ensures c.if-p-from.false refl (held-true c.is_held.ensures l c.if-is_held.true)

pub returns : goal.returns
returns c =
    none_found c.requires.bounded c.requires.ordered c.place-p.ensures c.if-p-from.false
    refl (held-false c.is_held.ensures c.if-is_held.false)
