-- `sources::side::put_sources` meets its contract. The loop's invariant: the numbers that are put, and those of the lines that are left, are all
-- (`Filling`).
use mathlib.Core.Path.{◌≡◌, ap, sym, ◌∙◌, subst}
use mathlib.Core.List.{List, [], ◌++◌}
use Prim.Native.Nat.{◌+◌, ◌*◌, ◌≤◌}
use native.Mathlib.Omega.{arith}
use lib.ListN.{length, get_or, drop}
use Rattle.pieces.proofs.Putting.{part_length}
use Rattle.sources.specs.Sources.{Source, source_numbers, place_numbers}
use Rattle.sources.specs.Units.{places_in}
use Rattle.sources.proofs.Filling.{none_filled, filled, room-left, more-filled}
use Rattle.sources.proofs.Putting.{numbers-length}
use Rattle.sources.proofs.Sides.{sources_left, numbers_left, left-all, left-none, left-length, left-numbers, source-length, no-numbers, all_there}
use Rattle.sources.proofs.side.put_sources.Goals as goal
use Rattle.sources.proofs.side.put_sources.Goals.{In-loop-k}

-- there is room for the records of the next line
unit-fits : (c : In-loop-k) →
    let a = c.args in
    let l = c.loop-k in
    l.done + 3 * length (places_in a.edition a.s.now (get_or a.numbers.now (3 * l.k + 2) 0)) ≤ length l.list
unit-fits c =
    let a = c.args in
    let l = c.loop-k in
    let places = places_in a.edition a.s.now in
    let left = sources_left places a.numbers.now a.lines in
    let all = ap length (left-all places a.numbers.now a.lines) in
    let room = room-left l.invariant (omega (arith, source-length (left 0), c.requires.lines_in_bounds)) in
    omega (arith, source-length (left l.k), left-length places a.numbers.now a.lines l.k c.loop-k-test.true)

pub loop-k-init : goal.loop-k-init
loop-k-init c = none_filled

pub overflow_mul-unit : goal.overflow_mul-unit
overflow_mul-unit c = omega (arith, c.requires.lines_listed.room)

pub overflow_add-unit : goal.overflow_add-unit
overflow_add-unit c = omega (arith, c.requires.lines_listed.room)

pub offset_bounds-numbers-k : goal.offset_bounds-numbers-k
offset_bounds-numbers-k c = omega (arith, c.requires.lines_listed.room)

pub bounds-numbers-k : goal.bounds-numbers-k
bounds-numbers-k c = omega (arith, c.requires.lines_listed.room)

pub overflow_cast-k : goal.overflow_cast-k
overflow_cast-k c = omega (arith, c.requires.lines_listed.few)

pub offset_bounds-list-done : goal.offset_bounds-list-done
offset_bounds-list-done c = omega (arith, c.loop-k.invariant.within)

pub slice_bounds-put_unit-count : goal.slice_bounds-put_unit-count
slice_bounds-put_unit-count c = c.loop-k.invariant.within

pub slice_bounds-put_unit-start : goal.slice_bounds-put_unit-start
slice_bounds-put_unit-start c = c.loop-k.invariant.within

pub put_unit-done-requires : goal.put_unit-done-requires
put_unit-done-requires c =
    let l = c.loop-k in
    record { fine = c.requires.fine; unit_in_bounds = omega (arith, unit-fits (goal.at.put_unit-done-requires c).In-loop-k, part_length l.list l.done) }

pub overflow_add-done : goal.overflow_add-done
overflow_add-done c = omega (arith, unit-fits (goal.at.overflow_add-done c).In-loop-k, c.put_unit-done.ensures.value)

pub loop-k-preserved : goal.loop-k-preserved
loop-k-preserved c =
    let a = c.args in
    let l = c.loop-k in
    let unit = get_or a.numbers.now (3 * l.k + 2) 0 in
    let places = places_in a.edition a.s.now in
    let left = numbers_left places a.numbers.now a.lines in
    let next = left-numbers places a.numbers.now a.lines l.k c.loop-k-test.true in
    let own = place_numbers l.k (places unit) in
    let size : c.put_unit-done.result ≡ length own = ◌∙◌ {b = 3 * length (places unit)} c.put_unit-done.ensures.value
    (sym (numbers-length l.k (places unit))) in
    let room = unit-fits (goal.at.loop-k-preserved c).In-loop-k in
    let fits : l.done + c.put_unit-done.result ≤ length l.list = omega (arith, room, c.put_unit-done.ensures.value) in
    more-filled l.invariant own (left (l.k + 1)) next c.put_unit-done.result size fits _ c.put_unit-done.ensures.list_after

pub shape_of-list : goal.shape_of-list
shape_of-list c = c.loop-k.invariant.kept

pub returns : goal.returns
returns c =
    let a = c.args in
    let l = c.loop-k in
    let places = places_in a.edition a.s.now in
    let none_left : numbers_left places a.numbers.now a.lines l.k ≡ [] =
    ap source_numbers (left-none places a.numbers.now a.lines l.k (omega arith)) ∙ no-numbers in
    subst (λ (xs : List Source). l.list ≡ source_numbers xs ++ drop (length (source_numbers xs)) a.list.now) (left-all places a.numbers.now a.lines)
    (all_there (numbers_left places a.numbers.now a.lines 0) a.list.now l.list l.done (filled l.invariant none_left))
