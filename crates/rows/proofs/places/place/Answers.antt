-- `rows::places::place` meets its contract. The loop's invariant: what stands before `low` does not come after what is asked for, what stands
-- from `high` on does. The measure is how many stand between.
use mathlib.Core.Path.{sym, ◌∙◌}
use mathlib.Core.List.{List}
use Prim.Native.Nat.{ℕ, ◌+◌, ◌-◌, ◌/◌, ◌<◌}
use native.Mathlib.Omega.{arith}
use lib.ListN.{get_or}
use Rattle.rows.specs.Lookup.{Ordered, Between}
use Rattle.rows.proofs.Sorted.{between-all, lower-half, upper-half, between-met}
use Rattle.rows.proofs.places.place.Goals as goal

-- the row at hand is one of those
row_below : {s rows : List ℕ} {column : ℕ} {next : List ℕ} {from n : ℕ} {key : List ℕ} {low high : ℕ} → Ordered s rows column next from n
    → Between s rows column next from n key low high → low < high → get_or next (low + (high - low) / 2) 0 < n
row_below {low} {high} o b l = o.below (low + (high - low) / 2) (omega (arith, b.starts)) (omega (arith, b.ends, l))

pub loop-low-init : goal.loop-low-init
loop-low-init c = between-all c.requires.ordered

pub overflow_add-middle : goal.overflow_add-middle
overflow_add-middle c = omega (arith, c.loop-low.invariant.ends)

pub bounds-next-middle : goal.bounds-next-middle
bounds-next-middle c =
    omega (arith, c.loop-low.invariant.ends, c.requires.ordered.fits)

pub is_before-requires : goal.is_before-requires
is_before-requires c =
    let low = c.loop-low in
    let j = get_or c.args.next.now (low.low + (low.high - low.low) / 2) 0 in
    let l : j < c.args.n = row_below c.requires.ordered low.invariant c.loop-low-test.true in
    record { column_bound = c.requires.bounded.in-row; scratch_width_in_bounds = omega (arith, c.requires.bounded.in_table); j_bound = c.requires.bounded.ordered j l; j_in_bounds = c.requires.bounded.inside j l }

pub loop-low-preserved-then-is_before : goal.loop-low-preserved-then-is_before
loop-low-preserved-then-is_before c =
    let a = c.args in
    let l = c.loop-low in
    lower-half c.requires.ordered l.invariant (omega arith) (omega arith)
    (sym c.is_before.ensures ∙ c.if-is_before.true)

pub overflow_add-low : goal.overflow_add-low
overflow_add-low c = omega (arith, c.loop-low.invariant.ends)

pub loop-low-preserved : goal.loop-low-preserved
loop-low-preserved c =
    let a = c.args in
    let l = c.loop-low in
    upper-half c.requires.ordered l.invariant (omega arith) (omega arith)
    (sym c.is_before.ensures ∙ c.if-is_before.false)

pub returns : goal.returns
returns c = between-met c.loop-low.invariant c.loop-low-test.false
