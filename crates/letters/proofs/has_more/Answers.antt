-- `letters::has_more` meets its contract: the elements of the stream and those that may still be passed are as many as those asked for and
-- those of the rest.
use mathlib.Core.Path.{◌≡◌, sym, ap, subst}
use native.Mathlib.Omega.{arith}
use borrow.Author.Tests.{lt-ltb, le-ltb}
use Rattle.runs.specs.Runs.{whole_stream, tops, Fine, Meeting}
use Rattle.letters.proofs.has_more.Invariants.{tops_in}
use Rattle.letters.proofs.has_more.Goals as goal
use Rattle.letters.proofs.has_more.Goals.{In-Some, After-whole_stream-cur}

meeting : (c : In-Some) →
    Meeting c.args.s.now c.loop-item.cur
    c.in-Some.item.code c.in-Some.item.first c.in-Some.item.past c.in-Some.item.inner c.in-Some.item.rest
meeting c = c.in-Some.ensures

-- the run that the count began with is that of the stream
same-tops : (c : After-whole_stream-cur) →
    let s = c.args.s.now in tops_in s c.whole_stream-cur.result ≡ tops_in s (whole_stream s)
same-tops c = ap (tops_in c.args.s.now) c.whole_stream-cur.ensures

pub loop-item-init : goal.loop-item-init
loop-item-init c =
    let s = c.args.s.now in (subst (Fine s) (sym c.whole_stream-cur.ensures) c.requires, omega arith)

pub meet-requires : goal.meet-requires
meet-requires c = c.loop-item.invariant.0

pub returns : goal.returns
returns c =
    let l = c.loop-item in
    let a = c.args in
    let s = a.s.now in
    sym (le-ltb a.most (tops_in s (whole_stream s)) (omega (arith, l.invariant.1, ap tops c.in_default.ensures, same-tops (goal.at.returns c).After-whole_stream-cur)))

pub returns-then-left-eq0 : goal.returns-then-left-eq0
returns-then-left-eq0 c =
    let m = meeting (goal.at.returns-then-left-eq0 c).In-Some in
    let l = c.loop-item in
    let a = c.args in
    let s = a.s.now in
    sym (lt-ltb a.most (tops_in s (whole_stream s)) (omega (
      arith,
      l.invariant.1,
      ap tops m.tree,
      c.if-left-eq0.true,
      same-tops (goal.at.returns-then-left-eq0 c).After-whole_stream-cur,
    )))

pub loop-item-smaller : goal.loop-item-smaller
loop-item-smaller c = (meeting (goal.at.loop-item-smaller c).In-Some).less

pub loop-item-preserved : goal.loop-item-preserved
loop-item-preserved c =
    let m = meeting (goal.at.loop-item-preserved c).In-Some in
    let l = c.loop-item in
    (m.rest_fine, omega (arith, l.invariant.1, ap tops m.tree, c.if-left-eq0.false))
