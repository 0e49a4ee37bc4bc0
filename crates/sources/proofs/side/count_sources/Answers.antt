-- `sources::side::count_sources` meets its contract. The loop's invariant: the sources that are counted, and those of the lines that are left, are all.
--
use mathlib.Core.Path.{◌≡◌, ap}
use Prim.Native.Nat.{◌+◌, ◌≤◌}
use native.Mathlib.Omega.{arith}
use lib.ListN.{length}
use Rattle.sources.specs.Units.{places_in}
use Rattle.sources.proofs.Sides.{sources_left, left-all, left-none, left-length}
use Rattle.sources.proofs.side.count_sources.Goals as goal
use Rattle.sources.proofs.side.count_sources.Goals.{After-count_unit-total}

-- what a turn counts, and that all is not much
turn : (c : After-count_unit-total) →
    let a = c.args in
    let l = c.loop-k in
    let left = sources_left (places_in a.edition a.s.now) a.numbers.now a.lines in
    length (left l.k) ≡ c.count_unit-total.result + length (left (l.k + 1))
turn c =
    let a = c.args in
    let l = c.loop-k in
    let places = places_in a.edition a.s.now in
    omega (arith, left-length places a.numbers.now a.lines l.k c.loop-k-test.true, c.count_unit-total.ensures)

all_short : (c : After-count_unit-total) →
    let a = c.args in
    let l = c.loop-k in
    l.total + length (sources_left (places_in a.edition a.s.now) a.numbers.now a.lines l.k) ≤ 1048576
all_short c =
    let a = c.args in
    let all = ap length (left-all (places_in a.edition a.s.now) a.numbers.now a.lines) in
    omega (arith, c.requires.lines_listed.short, c.loop-k.invariant)

pub loop-k-init : goal.loop-k-init
loop-k-init c = omega arith

pub overflow_mul-unit : goal.overflow_mul-unit
overflow_mul-unit c = omega (arith, c.requires.lines_listed.room)

pub overflow_add-unit : goal.overflow_add-unit
overflow_add-unit c = omega (arith, c.requires.lines_listed.room)

pub offset_bounds-numbers-k : goal.offset_bounds-numbers-k
offset_bounds-numbers-k c = omega (arith, c.requires.lines_listed.room)

pub bounds-numbers-k : goal.bounds-numbers-k
bounds-numbers-k c = omega (arith, c.requires.lines_listed.room)

pub count_unit-total-requires : goal.count_unit-total-requires
count_unit-total-requires c = c.requires.fine

pub overflow_add-total : goal.overflow_add-total
overflow_add-total c =
    let here = (goal.at.overflow_add-total c).After-count_unit-total in
    omega (arith, turn here, all_short here)

pub loop-k-preserved : goal.loop-k-preserved
loop-k-preserved c = omega (arith, turn (goal.at.loop-k-preserved c).After-count_unit-total, c.loop-k.invariant)

pub returns : goal.returns
returns c =
    let a = c.args in
    let l = c.loop-k in
    let places = places_in a.edition a.s.now in
    let none_left = ap length (left-none places a.numbers.now a.lines l.k (omega arith)) in
    let all = ap length (left-all places a.numbers.now a.lines) in
    omega (arith, l.invariant)
