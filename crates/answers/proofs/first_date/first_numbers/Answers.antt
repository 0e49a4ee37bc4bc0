-- `answers::first_date::first_numbers` meets its contract: 1, an empty stream, and then what the walk of the first element tells.
use mathlib.Core.Path.{sym, subst}
use Prim.Native.Nat.{◌<◌, ◌≤◌}
use native.Mathlib.Omega.{arith}
use lib.ListN.{length}
use Rattle.fronts.proofs.Firsts.{first_stops}
use Rattle.answers.specs.Dating.{FirstTells}
use Rattle.answers.proofs.FirstDating.{first-over, first-empty, first-faulty}
use Rattle.answers.proofs.first_date.first_numbers.Goals as goal
use Rattle.answers.proofs.first_date.first_numbers.Goals.{In-Err}

pub returns-then-stream-gt-STREAM_LIMIT : goal.returns-then-stream-gt-STREAM_LIMIT
returns-then-stream-gt-STREAM_LIMIT c =
    let a = c.args in
    subst (FirstTells a.edition a.stream.now) (sym c.refused_date.ensures) (first-over a.edition a.stream.now c.if-stream-gt-STREAM_LIMIT.true)

pub returns-then-stream-eq0 : goal.returns-then-stream-eq0
returns-then-stream-eq0 c =
    let a = c.args in
    subst (FirstTells a.edition a.stream.now) (sym c.refused_date-then-stream-eq0.ensures)
    (first-empty a.edition a.stream.now c.if-stream-gt-STREAM_LIMIT.false c.if-stream-eq0.true)

-- a fault in the first element: its number is one of 2 to 8, and its place is in the stream
small : (c : In-Err) →
    let s = c.args.stream.now in
    let refusal = c.in-Err.refusal in (2 ≤ refusal.number) × (refusal.number ≤ 8) × (refusal.place ≤ length s)
small c =
    let s = c.args.stream.now in
    let some : 0 < length s = omega (arith, c.if-stream-eq0.false) in
    first_stops s _ _ some c.in-Err.ensures

pub overflow_cast-refusal : goal.overflow_cast-refusal
overflow_cast-refusal c = let k = small (goal.at.overflow_cast-refusal c).In-Err in omega (arith, k.1)

pub overflow_cast-refusal-in-Err : goal.overflow_cast-refusal-in-Err
overflow_cast-refusal-in-Err c = let k = small (goal.at.overflow_cast-refusal-in-Err c).In-Err in omega (arith, k.2, c.if-stream-gt-STREAM_LIMIT.false)

pub date_in_first-requires : goal.date_in_first-requires
date_in_first-requires c = (c.in-Ok.ensures, c.if-stream-gt-STREAM_LIMIT.false)

pub returns-in-Err : goal.returns-in-Err
returns-in-Err c =
    let a = c.args in
    let k = small (goal.at.returns-in-Err c).In-Err in
    subst (FirstTells a.edition a.stream.now) (sym c.refused_date-in-Err.ensures)
    (first-faulty a.edition a.stream.now c.if-stream-gt-STREAM_LIMIT.false _ _ c.in-Err.ensures
    (λ z. omega (arith, k.0)))

pub returns-in-Ok : goal.returns-in-Ok
returns-in-Ok c = c.date_in_first.ensures
