-- `runs::is_over` meets its contract: a run has an item exactly where a header passed.
use mathlib.Core.Path.{◌≡◌, sym, ap, ◌∙◌}
use mathlib.Core.Bool.{true}
use mathlib.Core.List.{List}
use Prim.Native.Nat.{ℕ, ◌<◌}
use native.Mathlib.Omega.{arith}
use borrow.Author.Tests.{ne_eqb}
use lib.Dec.{eqb}
use Rattle.octets.specs.Walk.{Items, no_items}
use Rattle.octets.proofs.Turns.{tree-ends}
use Rattle.runs.specs.declared.Run.{Run}
use Rattle.runs.specs.Runs.{items_of, tops}
use Rattle.runs.proofs.Meetings.{passed, some_item, none-met}
use Rattle.runs.proofs.is_over.Goals as goal
use Rattle.runs.proofs.is_over.Goals.{Else-at-limit}

no-item : (s : List ℕ) (r : Run) → items_of s r ≡ no_items → true ≡ eqb (tops (items_of s r)) 0
no-item s r e = sym (ap (λ (i : Items). eqb (tops i) 0) e)

before-limit : (c : Else-at-limit) → let r = c.args.r in r.at < r.limit
before-limit c = let o = c.requires.order in omega arith

pub returns-then-at-limit : goal.returns-then-at-limit
returns-then-at-limit c =
    let a = c.args in
    let r = a.r in
    let e : r.at ≡ r.limit = c.if-at-limit.true in
    no-item a.s.now r (rw e (tree-ends r.room a.s.now r.limit r.marked))

pub passed_head-requires : goal.passed_head-requires
passed_head-requires c =
    let here = (goal.at.passed_head-requires c).Else-at-limit in
    let a = c.args in
    let fine = c.requires in
    (before-limit here, fine.inside, passed a.s.now a.r fine (before-limit here))

pub returns-in-Item : goal.returns-in-Item
returns-in-Item c =
    let s = c.args.s.now in
    let r = c.args.r in
    sym (ne_eqb (tops (items_of s r)) 0
    (some_item s r c.requires (before-limit (goal.at.returns-in-Item c).Else-at-limit) _ (sym c.passed_head.ensures ∙ c.in-Item.is)))

pub returns-in_default : goal.returns-in_default
returns-in_default c =
    let a = c.args in
    let l = before-limit (goal.at.returns-in_default c).Else-at-limit in
    no-item a.s.now a.r (none-met a.s.now a.r l _ (sym c.passed_head.ensures) c.in_default.not-Item)
