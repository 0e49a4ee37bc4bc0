-- The proof of the cycle of calls {walk_item, walk_run}. `walk_run` at room calls `walk_item` at the same room, and that calls `walk_run` at
-- room - 1, so `walk_item`'s measure lies between: 2 room + 1 for `walk_run`, 2 room for `walk_item`.
-- The invariant of the loop: the answer of the run from its start is the answer of the run from `at`, with the items counted so far.
use mathlib.Core.Path.{◌≡◌, sym, ◌∙◌, ap}
use mathlib.Core.Bool.{Bool, true, false}
use Prim.Native.Nat.{ℕ, ◌+◌, ◌-◌, ◌≤◌}
use native.Mathlib.Nat.{add-zero}
use native.Mathlib.Omega.{arith}
use borrow.Author.Tests.{eq-eqb, ne_eqb}
use Rattle.headers.specs.declared.Head.{Head}
use Rattle.headers.specs.declared.Head.TheVariants.{Item, ClosingMark, Refusal}
use Rattle.octets.specs.Told.{Outcome, ended, refused}
use Rattle.headers.specs.Head.{head_at}
use Rattle.octets.specs.Walk.{run, answer}
use Rattle.octets.specs.Further.{plus}
use Rattle.octets.specs.Values.{value_of}
use Rattle.octets.proofs.Turns.{plus-plus, plus-zero, closes, refuses, passes, breaks, unclosed, closed, header_ok, mark-ok, passed_ok, broken-ok}
use Rattle.octets.proofs.+walk_item_walk_run.Goals as goal
use Rattle.octets.proofs.+walk_item_walk_run.Goals.{walk_item-Else-start-bound, walk_run-After-head_at, walk_run-After-walk_item, walk_run-After-loop-at}

pub walk_item-walk_run-requires : goal.walk_item-walk_run-requires
walk_item-walk_run-requires t c = (omega arith, (omega arith, omega arith))

pub walk_item-returns-then-start-bound : goal.walk_item-returns-then-start-bound
unfolding value_of
walk_item-returns-then-start-bound t c = simp (eq-eqb _ _ c.if-code-eq1.true) c.walk_run.ensures

-- a run that begins at its limit, where `marked` is what the test said
empty-value : (t : ℕ) (c : walk_item-Else-start-bound t) (b : Bool) →
    let a = c.args in
    a.h.marked ≡ b → answer (value_of a.room a.s.now a.h) ≡ answer (run (a.room - 1) a.s.now a.h.bound a.h.bound b)
unfolding value_of
empty-value t c b m = rw (eq-eqb _ _ c.if-code-eq1.true, c.if-start-bound.false, m)

pub walk_item-returns-then-marked : goal.walk_item-returns-then-marked
walk_item-returns-then-marked t c =
    let a = c.args in
    sym (empty-value t (goal.at.walk_item-returns-then-marked t c).Else-start-bound true c.if-marked.true ∙ unclosed (a.room - 1) a.s.now a.h.bound)

pub walk_item-returns-else-marked : goal.walk_item-returns-else-marked
walk_item-returns-else-marked t c =
    let a = c.args in
    sym (empty-value t (goal.at.walk_item-returns-else-marked t c).Else-start-bound false c.if-marked.false ∙ closed (a.room - 1) a.s.now a.h.bound)

pub walk_item-returns-else-code-eq1 : goal.walk_item-returns-else-code-eq1
unfolding value_of
walk_item-returns-else-code-eq1 t c = simp (ne_eqb _ _ c.if-code-eq1.false)

-- what stands at `at`, where x was read
read : (t : ℕ) (c : walk_run-After-head_at t) (x : Head) → c.head_at.result ≡ x →
    let a = c.args in
    head_at a.s.now c.loop-at.at a.limit a.marked a.room ≡ x
read t c x e = sym c.head_at.ensures ∙ e

passed : (t : ℕ) (c : walk_run-After-walk_item t) (next k : ℕ) → c.walk_item.result ≡ ended next k →
    let a = c.args in
    let l = c.loop-at in
    (l.at + 2 + (k + k) ≤ next)
    × (next ≤ a.limit)
    × (answer (run a.room a.s.now a.from a.limit a.marked)
    ≡ plus (l.count + 1 + k) (answer (run a.room a.s.now next a.limit a.marked)))
passed t c next k w =
    let a = c.args in
    let l = c.loop-at in
    let rest : Outcome = answer (run a.room a.s.now next a.limit a.marked) in
    let e = read t (goal.at.walk_run-After-walk_item t c).After-head_at (Item c.in-Item.h) c.in-Item.is in
    let v : answer (value_of a.room a.s.now c.in-Item.h) ≡ ended next k = sym c.walk_item.ensures ∙ w in
    let o = passed_ok a.room a.s.now l.at a.limit a.marked c.in-Item.h e next k v in (
      o.0,
      o.1,
      l.invariant.2
          ∙ ap (plus l.count) (passes a.room a.s.now l.at a.limit a.marked
          c.loop-at-test.true c.in-Item.h e next k v)
          ∙ plus-plus l.count (k + 1) rest
          ∙ ap (λ (n : ℕ). plus n rest) (omega arith),
    )

broken : (t : ℕ) (c : walk_run-After-walk_item t) (number place k : ℕ) → c.walk_item.result ≡ refused number place k →
    let a = c.args in
    let l = c.loop-at in
    (l.at + 2 + (k + k) ≤ a.limit)
    × (answer (run a.room a.s.now a.from a.limit a.marked) ≡ refused number place (l.count + 1 + k))
broken t c number place k w =
    let a = c.args in
    let l = c.loop-at in
    let e = read t (goal.at.walk_run-After-walk_item t c).After-head_at (Item c.in-Item.h) c.in-Item.is in
    let v : answer (value_of a.room a.s.now c.in-Item.h) ≡ refused number place k = sym c.walk_item.ensures ∙ w in (
      broken-ok a.room a.s.now l.at a.limit a.marked c.in-Item.h e number place k v,
      l.invariant.2
          ∙ ap (plus l.count) (breaks a.room a.s.now l.at a.limit a.marked
          c.loop-at-test.true c.in-Item.h e number place k v)
          ∙ ap (refused number place) (omega arith),
    )

pub walk_run-loop-at-init : goal.walk_run-loop-at-init
walk_run-loop-at-init t c = (omega arith, omega arith, plus-zero _)

pub walk_run-overflow_add-result : goal.walk_run-overflow_add-result
walk_run-overflow_add-result t c =
    let a = c.args in
    omega (
      arith,
      mark-ok a.s.now c.loop-at.at a.limit a.room a.marked
          (read t (goal.at.walk_run-overflow_add-result t c).After-head_at ClosingMark c.in-ClosingMark.is),
    )

pub walk_run-returns-in-ClosingMark : goal.walk_run-returns-in-ClosingMark
walk_run-returns-in-ClosingMark t c =
    let a = c.args in
    let l = c.loop-at in
    sym (l.invariant.2
    ∙ ap (plus l.count) (closes a.room a.s.now l.at a.limit a.marked c.loop-at-test.true
    (read t (goal.at.walk_run-returns-in-ClosingMark t c).After-head_at ClosingMark c.in-ClosingMark.is))
    ∙ ap (ended (l.at + 2)) (add-zero l.count))

pub walk_run-returns-in-Refusal : goal.walk_run-returns-in-Refusal
walk_run-returns-in-Refusal t c =
    let a = c.args in
    let l = c.loop-at in
    sym (l.invariant.2
    ∙ ap (plus l.count) (refuses a.room a.s.now l.at a.limit a.marked c.loop-at-test.true
    c.in-Refusal.number c.in-Refusal.place
    (read t (goal.at.walk_run-returns-in-Refusal t c).After-head_at (Refusal c.in-Refusal.number c.in-Refusal.place) c.in-Refusal.is))
    ∙ ap (refused c.in-Refusal.number c.in-Refusal.place) (add-zero l.count))

pub walk_run-walk_item-requires : goal.walk_run-walk_item-requires
walk_run-walk_item-requires t c =
    let a = c.args in
    let o = header_ok a.s.now c.loop-at.at a.limit a.room a.marked c.in-Item.h
    (read t (goal.at.walk_run-walk_item-requires t c).After-head_at (Item c.in-Item.h) c.in-Item.is) in
    (omega arith, (omega arith, omega arith, omega arith))

pub walk_run-overflow_add-count : goal.walk_run-overflow_add-count
walk_run-overflow_add-count t c = let o = passed t (goal.at.walk_run-overflow_add-count t c).After-walk_item _ _ c.in-Ok.is in omega arith

pub walk_run-overflow_add-count-in-Ok : goal.walk_run-overflow_add-count-in-Ok
walk_run-overflow_add-count-in-Ok t c = let o = passed t (goal.at.walk_run-overflow_add-count-in-Ok t c).After-walk_item _ _ c.in-Ok.is in omega arith

pub walk_run-loop-at-smaller : goal.walk_run-loop-at-smaller
walk_run-loop-at-smaller t c = let o = passed t (goal.at.walk_run-loop-at-smaller t c).After-walk_item _ _ c.in-Ok.is in omega arith

pub walk_run-loop-at-preserved : goal.walk_run-loop-at-preserved
walk_run-loop-at-preserved t c = let o = passed t (goal.at.walk_run-loop-at-preserved t c).After-walk_item _ _ c.in-Ok.is in (o.1, omega arith, o.2)

pub walk_run-overflow_add-result-in-Err : goal.walk_run-overflow_add-result-in-Err
walk_run-overflow_add-result-in-Err t c = let o = broken t (goal.at.walk_run-overflow_add-result-in-Err t c).After-walk_item _ _ _ c.in-Err.is in omega arith

pub walk_run-overflow_add-result-in-Err-2 : goal.walk_run-overflow_add-result-in-Err-2
walk_run-overflow_add-result-in-Err-2 t c =
    let o = broken t (goal.at.walk_run-overflow_add-result-in-Err-2 t c).After-walk_item _ _ _ c.in-Err.is in omega arith

pub walk_run-returns-in-Err : goal.walk_run-returns-in-Err
walk_run-returns-in-Err t c = sym (broken t (goal.at.walk_run-returns-in-Err t c).After-walk_item _ _ _ c.in-Err.is).1

-- at the limit: `at` is the limit, and `marked` is what the test said
at_limit : (t : ℕ) (c : walk_run-After-loop-at t) (b : Bool) →
    let a = c.args in
    a.marked ≡ b → answer (run a.room a.s.now a.from a.limit a.marked)
    ≡ plus c.loop-at.count (answer (run a.room a.s.now a.limit a.limit b))
at_limit t c b m =
    let a = c.args in
    let l = c.loop-at in
    let e : l.at ≡ a.limit = omega arith in
    l.invariant.2 ∙ rw (e, m)

pub walk_run-returns-then-marked : goal.walk_run-returns-then-marked
walk_run-returns-then-marked t c =
    let a = c.args in
    let n = c.loop-at.count in
    sym (at_limit t (goal.at.walk_run-returns-then-marked t c).After-loop-at true c.if-marked.true
    ∙ ap (plus n) (unclosed a.room a.s.now a.limit) ∙ ap (refused 7 a.limit) (add-zero n))

pub walk_run-returns-else-marked : goal.walk_run-returns-else-marked
walk_run-returns-else-marked t c =
    let a = c.args in
    let n = c.loop-at.count in
    sym (at_limit t (goal.at.walk_run-returns-else-marked t c).After-loop-at false c.if-marked.false
    ∙ ap (plus n) (closed a.room a.s.now a.limit) ∙ ap (ended a.limit) (add-zero n))
