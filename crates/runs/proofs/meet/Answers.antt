-- `runs::meet` meets its contract: where a header passed, the walk has an item, which ends at its bound or past its closing mark; and
-- where none did, the run has no item.
use mathlib.Core.Path.{◌≡◌, ap, sym, ◌∙◌}
use mathlib.Core.Bool.{Bool, true, false}
use mathlib.Core.List.{List}
use Prim.Native.Nat.{ℕ, ◌-◌, ◌<◌}
use native.Mathlib.Omega.{arith}
use Rattle.headers.specs.declared.Header.{Header}
use Rattle.headers.specs.declared.Head.TheVariants.{Item}
use Rattle.headers.specs.Head.{octet_at, head_at}
use Rattle.octets.specs.Walk.{past_of}
use Rattle.octets.proofs.Turns.{tree-ends}
use Rattle.runs.specs.declared.Run.{Run}
use Rattle.runs.specs.Runs.{Fine}
use Rattle.runs.proofs.Meetings.{passed, lies, definite-ends, marked-value, marked-inside, marked-whole, marked-end, meets, none-met}
use Rattle.runs.proofs.meet.Goals as goal
use Rattle.runs.proofs.meet.Goals.{In-Item}

abbrev stream : (c : In-Item) → List ℕ
stream c = c.args.s.now

abbrev its_run : (c : In-Item) → Run
its_run c = c.args.r

abbrev header : (c : In-Item) → Header
header c = c.in-Item.h

its-fine : (c : In-Item) → Fine (stream c) (its_run c)
its-fine c = c.requires

before-limit : (c : In-Item) → (its_run c).at < (its_run c).limit
before-limit c = omega (arith, (its-fine c).order)

read : (c : In-Item) → head_at (stream c) (its_run c).at (its_run c).limit (its_run c).marked (its_run c).room ≡ Item (header c)
read c = sym c.passed_head.ensures ∙ c.in-Item.is

octet_small : (c : In-Item) → octet_at (stream c) (its_run c).at < 256
octet_small c = omega (arith, c.type_inv.s (its_run c).at)

pub returns-then-at-limit : goal.returns-then-at-limit
returns-then-at-limit c =
    let a = c.args in
    let r = a.r in
    let e : r.at ≡ r.limit = c.if-at-limit.true in
    rw e (tree-ends r.room a.s.now r.limit r.marked)

pub passed_head-requires : goal.passed_head-requires
passed_head-requires c =
    let a = c.args in
    let fine = c.requires in
    let l : a.r.at < a.r.limit = omega (arith, fine.order) in
    (l, fine.inside, passed a.s.now a.r fine l)

pub overflow_sub-below : goal.overflow_sub-below
overflow_sub-below c =
    let here = (goal.at.overflow_sub-below c).In-Item in
    let o = lies (stream here) (its_run here) (its-fine here) (before-limit here) (header here) (read here) in
    omega (arith, o.deep)

pub end_of_marked-next-requires : goal.end_of_marked-next-requires
end_of_marked-next-requires c =
    let here = (goal.at.end_of_marked-next-requires c).In-Item in
    let o = lies (stream here) (its_run here) (its-fine here) (before-limit here) (header here) (read here) in (
      o.order,
      omega (arith, o.within, (its-fine here).inside),
      marked-whole (stream here) (its_run here) (its-fine here) (before-limit here) (header here) (read here) c.if-h.true,
    )

pub overflow_sub-result : goal.overflow_sub-result
overflow_sub-result c =
    let here = (goal.at.overflow_sub-result c).In-Item in
    let m = c.if-h.true in
    let v = marked-value (stream here) (its_run here) (its-fine here) (before-limit here) (header here) (read here) m ∙ c.end_of_marked-next.ensures in
    let two = marked-end (stream here) (its_run here) (its-fine here) (before-limit here) (header here) (read here) c.end_of_marked-next.result v m in
    omega (arith, two)

pub returns-then-h : goal.returns-then-h
returns-then-h c =
    let here = (goal.at.returns-then-h c).In-Item in
    let m : (header here).marked ≡ true = c.if-h.true in
    let v = marked-value (stream here) (its_run here) (its-fine here) (before-limit here) (header here) (read here) m ∙ c.end_of_marked-next.ensures in
    meets (stream here) (its_run here) (its-fine here) (before-limit here) (header here) (read here) c.end_of_marked-next.result v (octet_small here)
    (c.end_of_marked-next.result - 2) (sym (ap (λ (b : Bool). past_of b c.end_of_marked-next.result) m)) _
    (marked-inside (stream here) (its_run here) (its-fine here) (before-limit here) (header here) (read here) m)

pub inside_of-requires : goal.inside_of-requires
inside_of-requires c =
    let here = (goal.at.inside_of-requires c).In-Item in
    let o = lies (stream here) (its_run here) (its-fine here) (before-limit here) (header here) (read here) in
    (o.deep, o.mark)

pub returns-in_default : goal.returns-in_default
returns-in_default c =
    let a = c.args in
    let o = c.requires.order in
    none-met a.s.now a.r (omega arith) _ (sym c.passed_head.ensures) c.in_default.not-Item

pub returns : goal.returns
returns c =
    let here = (goal.at.returns c).In-Item in
    let m : (header here).marked ≡ false = c.if-h.false in
    let v = definite-ends (stream here) (its_run here) (its-fine here) (before-limit here) (header here) (read here) m in
    meets (stream here) (its_run here) (its-fine here) (before-limit here) (header here) (read here) (header here).bound v (octet_small here)
    (header here).bound (sym (ap (λ (b : Bool). past_of b (header here).bound) m)) c.inside_of.result c.inside_of.ensures
