-- The proof of the cycle of calls {end_of_item, end_of_marked}. `end_of_marked` at room calls `end_of_item` at the same room, and that calls
-- `end_of_marked` at room - 1, so `end_of_item`'s measure lies between: 2 room + 1 for `end_of_marked`, 2 room for `end_of_item`.
-- The invariant of the loop: the run from its start ends as it does from `at`.
use mathlib.Core.Path.{◌≡◌, refl, sym, ap, subst, ◌∙◌}
use mathlib.Core.Bool.{true}
use Prim.Native.Nat.{ℕ}
use native.Mathlib.Omega.{arith}
use Rattle.headers.specs.declared.Head.{Head}
use Rattle.headers.specs.declared.Head.TheVariants.{Item, ClosingMark, Refusal}
use Rattle.headers.specs.Head.{head_at}
use Rattle.headers.specs.Passed.{Passed}
use Rattle.octets.specs.Walk.{Walked}
use Rattle.octets.proofs.Turns.{at_head, mark-ok}
use Rattle.tree.specs.Accepts.{Whole}
use Rattle.runs.proofs.Meetings.{definite-value, marked-run, marked-before, passed, lies, value-whole, next-within, rest-fine-after, ends-after}
use Rattle.runs.proofs.+end_of_item_end_of_marked.Goals as goal
use Rattle.runs.proofs.+end_of_item_end_of_marked.Goals.{end_of_marked-After-passed_head}

pub end_of_item-end_of_marked-requires : goal.end_of_item-end_of_marked-requires
end_of_item-end_of_marked-requires t c =
    let a = c.args in
    let e = marked-run a.room a.s.now a.h c.requires.code_value.0 c.if-h.true in
    (omega arith, (c.requires.room_nonzero.1, c.requires.room_nonzero.2, subst Whole e c.requires.code_value.1))

pub end_of_item-returns-then-h : goal.end_of_item-returns-then-h
end_of_item-returns-then-h t c =
    let a = c.args in
    marked-run a.room a.s.now a.h c.requires.code_value.0 c.if-h.true ∙ c.end_of_marked.ensures

pub end_of_item-returns : goal.end_of_item-returns
end_of_item-returns t c =
    let a = c.args in
    definite-value a.room a.s.now a.h c.requires.code_value.0 c.if-h.false c.requires.room_nonzero.1 c.requires.code_value.1

-- what stands at `at`, where x was read
read : (t : ℕ) (c : end_of_marked-After-passed_head t) (x : Head) → c.passed_head.result ≡ x →
    let a = c.args in head_at a.s.now c.loop-h.at a.limit true a.room ≡ x
read t c x e = sym c.passed_head.ensures ∙ e

pub end_of_marked-loop-h-init : goal.end_of_marked-loop-h-init
end_of_marked-loop-h-init t c =
    let known = c.requires in (record { order = known.0; inside = known.1; whole = known.2 }, refl)

pub end_of_marked-passed_head-requires : goal.end_of_marked-passed_head-requires
end_of_marked-passed_head-requires t c =
    let s = c.args.s.now in
    let fine = c.loop-h.invariant.0 in
    let before = marked-before s _ fine refl in
    (before, fine.inside, passed s _ fine before)

pub end_of_marked-overflow_add-result : goal.end_of_marked-overflow_add-result
end_of_marked-overflow_add-result t c =
    let a = c.args in
    let l = c.loop-h in
    let e = read t (goal.at.end_of_marked-overflow_add-result t c).After-passed_head ClosingMark c.in-ClosingMark.is in
    omega (arith, mark-ok a.s.now l.at a.limit a.room true e, l.invariant.0.inside)

pub end_of_marked-returns-in-ClosingMark : goal.end_of_marked-returns-in-ClosingMark
end_of_marked-returns-in-ClosingMark t c =
    let a = c.args in
    let s = a.s.now in
    let l = c.loop-h in
    let e = read t (goal.at.end_of_marked-returns-in-ClosingMark t c).After-passed_head ClosingMark c.in-ClosingMark.is in
    l.invariant.1
    ∙ ap (λ (w : Walked). w.how) (at_head a.room s l.at a.limit true (marked-before s _ l.invariant.0 refl) ClosingMark e)

pub end_of_marked-returns-in-Refusal : goal.end_of_marked-returns-in-Refusal
end_of_marked-returns-in-Refusal t c =
    let s = c.args.s.now in
    let l = c.loop-h in
    let e = read t (goal.at.end_of_marked-returns-in-Refusal t c).After-passed_head (Refusal _ _) c.in-Refusal.is in
    absurd (subst Passed e (passed s _ l.invariant.0 (marked-before s _ l.invariant.0 refl)))

pub end_of_marked-end_of_item-at-requires : goal.end_of_marked-end_of_item-at-requires
end_of_marked-end_of_item-at-requires t c =
    let s = c.args.s.now in
    let fine = c.loop-h.invariant.0 in
    let before = marked-before s _ fine refl in
    let e = read t (goal.at.end_of_marked-end_of_item-at-requires t c).After-passed_head (Item c.in-Item.h) c.in-Item.is in
    let o = lies s _ fine before c.in-Item.h e in
    (omega arith, ((o.deep, o.order, omega (arith, o.within, fine.inside)), (o.mark, value-whole s _ fine before c.in-Item.h e)))

pub end_of_marked-loop-h-smaller : goal.end_of_marked-loop-h-smaller
end_of_marked-loop-h-smaller t c =
    let s = c.args.s.now in
    let fine = c.loop-h.invariant.0 in
    let before = marked-before s _ fine refl in
    let e = read t (goal.at.end_of_marked-loop-h-smaller t c).After-passed_head (Item c.in-Item.h) c.in-Item.is in
    let n = next-within s _ fine before c.in-Item.h e c.end_of_item-at.result c.end_of_item-at.ensures in
    omega (arith, n.0, n.1)

pub end_of_marked-loop-h-preserved : goal.end_of_marked-loop-h-preserved
end_of_marked-loop-h-preserved t c =
    let s = c.args.s.now in
    let l = c.loop-h in
    let fine = l.invariant.0 in
    let before = marked-before s _ fine refl in
    let e = read t (goal.at.end_of_marked-loop-h-preserved t c).After-passed_head (Item c.in-Item.h) c.in-Item.is in
    let next = c.end_of_item-at.result in
    let v = c.end_of_item-at.ensures in
    (rest-fine-after s _ fine before c.in-Item.h e next v, l.invariant.1 ∙ ends-after s _ fine before c.in-Item.h e next v)
