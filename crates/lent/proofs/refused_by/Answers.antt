-- `lent::refused_by` meets its contract: what the walk refuses is refused, then the scratch is measured, then the elements are judged in it.
use mathlib.Core.Path.{◌≡◌, sym, ap, ◌∙◌}
use Prim.Native.Nat.{ℕ, ◌+◌, ◌*◌, ◌≤◌}
use native.Mathlib.Omega.{arith}
use lib.ListN.{length, take}
use lib.Seq.{length-take-le}
use Rattle.octets.specs.Told.{ended}
use Rattle.octets.specs.Walk.{walk_of}
use Rattle.runs.proofs.Laws.{stream-fine}
use Rattle.letters.specs.Lent.{rows_needed}
use Rattle.answers.proofs.Small.{walk-small}
use Rattle.lent.specs.Lent.{rows_for, size_for}
use Rattle.lent.proofs.Cleared.{size-for}
use Rattle.lent.proofs.Ruling.{by-walk, few-rows, few-index, enough}
use Rattle.lent.proofs.refused_by.Goals as goal
use Rattle.lent.proofs.refused_by.Goals.{In-Ok, After-size_for, After-judge-arg-in-Ok-1}

-- the walk has passed the stream
walked : (c : In-Ok) → walk_of c.args.stream.now ≡ ended c.in-Ok.field-0.at c.in-Ok.field-0.count
walked c = sym c.walk.ensures ∙ c.in-Ok.is

pub overflow_cast-result : goal.overflow_cast-result
overflow_cast-result c = let r = walk-small _ _ _ _ (sym c.walk.ensures ∙ c.in-Err.is) in omega arith

pub overflow_cast-result-in-Err : goal.overflow_cast-result-in-Err
overflow_cast-result-in-Err c = let r = walk-small _ _ _ _ (sym c.walk.ensures ∙ c.in-Err.is) in omega arith

pub rows_needed-needed-requires : goal.rows_needed-needed-requires
rows_needed-needed-requires c = stream-fine _ _ _ (walked (goal.at.rows_needed-needed-requires c).In-Ok)

-- how long the index is to be
size_is : (c : After-size_for) → c.size_for.result ≡ size_for (rows_needed c.args.stream.now)
size_is c = c.size_for.ensures ∙ ap size_for c.rows_needed-needed.ensures

small : (c : After-size_for) → c.size_for.result ≤ 4096
small c = omega (arith, size_is c, (size-for (rows_needed c.args.stream.now) (omega arith)).most)

pub overflow_mul-size : goal.overflow_mul-size
overflow_mul-size c = omega (arith, small (goal.at.overflow_mul-size c).After-size_for)

pub overflow_add-size : goal.overflow_add-size
overflow_add-size c = omega (arith, small (goal.at.overflow_add-size c).After-size_for)

pub returns-then-rows-needed : goal.returns-then-rows-needed
returns-then-rows-needed c =
    let a = c.args in
    few-rows a.edition a.stream.now _ _ (walked (goal.at.returns-then-rows-needed c).In-Ok) (omega (arith, c.if-rows-needed.true, c.rows_needed-needed.ensures))

pub returns-then-index-size : goal.returns-then-index-size
returns-then-index-size c =
    let a = c.args in
    few-index a.edition a.stream.now _ _ (walked (goal.at.returns-then-index-size c).In-Ok) (omega (arith, c.if-index-size.true, size_is (goal.at.returns-then-index-size c).After-size_for))

-- the index as it is lent
index-long : (c : After-judge-arg-in-Ok-1) →
    let size : ℕ = 6 * c.size_for.result + 2 in length (take size c.args.index.now) ≡ size
index-long c = length-take-le _ _ c.if-index-size.false

pub slice_bounds-judge-end-in-Ok : goal.slice_bounds-judge-end-in-Ok
slice_bounds-judge-end-in-Ok c = sym (index-long (goal.at.slice_bounds-judge-end-in-Ok c).After-judge-arg-in-Ok-1)

-- the scratch is enough
room : (c : After-judge-arg-in-Ok-1) → let a = c.args in rows_for (rows_needed a.stream.now) ≤ length a.rows.now
room c = omega (arith, c.if-rows-needed.false, c.rows_needed-needed.ensures)

pub judge-requires : goal.judge-requires
judge-requires c =
    let here = (goal.at.judge-requires c).After-judge-arg-in-Ok-1 in
    record { by_index = (_, _, walked (goal.at.judge-requires c).In-Ok); stream_in_bounds = (room here, index-long here ∙ ap (λ (n : ℕ). 6 * n + 2) (size_is (goal.at.judge-requires c).After-size_for)) }

pub returns-in-Err : goal.returns-in-Err
returns-in-Err c =
    let a = c.args in
    by-walk a.edition a.stream.now _ _ _ _ _ (sym c.walk.ensures ∙ c.in-Err.is)

pub returns-else-index-size : goal.returns-else-index-size
returns-else-index-size c =
    let a = c.args in
    c.judge.ensures
    ∙ enough a.edition a.stream.now _ _ (walked (goal.at.returns-else-index-size c).In-Ok) (room (goal.at.returns-else-index-size c).After-judge-arg-in-Ok-1) (omega (arith, c.if-index-size.false, size_is (goal.at.returns-else-index-size c).After-size_for))
