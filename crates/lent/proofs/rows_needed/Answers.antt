-- `lent::rows_needed` meets its contract: the elements counted so far and those of the rest are those of the stream.
use mathlib.Core.Path.{◌≡◌, sym, ap, subst}
use native.Mathlib.Omega.{arith}
use Rattle.runs.specs.Runs.{whole_stream, tops, Fine, Meeting}
use Rattle.lent.proofs.rows_needed.Invariants.{tops_in}
use Rattle.lent.proofs.rows_needed.Goals as goal
use Rattle.lent.proofs.rows_needed.Goals.{In-Some, After-whole_stream-cur}

meeting : (c : In-Some) →
    Meeting c.args.s.now c.loop-item.cur
    c.in-Some.item.code c.in-Some.item.first c.in-Some.item.past c.in-Some.item.inner c.in-Some.item.rest
meeting c = c.in-Some.ensures

-- the run that the count began with is that of the stream
same-tops : (c : After-whole_stream-cur) →
    let s = c.args.s.now in tops_in s c.whole_stream-cur.result ≡ tops_in s (whole_stream s)
same-tops c = ap (tops_in c.args.s.now) c.whole_stream-cur.ensures

pub loop-item-init : goal.loop-item-init
loop-item-init c =
    let s = c.args.s.now in
    (subst (Fine s) (sym c.whole_stream-cur.ensures) c.requires, omega arith, omega arith)

pub meet-requires : goal.meet-requires
meet-requires c = c.loop-item.invariant.0

pub returns : goal.returns
returns c =
    let l = c.loop-item in
    let s = c.args.s.now in
    omega (arith, l.invariant.1, l.invariant.2, ap tops c.in_default.ensures, same-tops (goal.at.returns c).After-whole_stream-cur)

pub returns-then-n-eq-MOST_ELEMENTS : goal.returns-then-n-eq-MOST_ELEMENTS
returns-then-n-eq-MOST_ELEMENTS c =
    let l = c.loop-item in
    omega (arith, l.invariant.2, c.if-n-eq-MOST_ELEMENTS.true, same-tops (goal.at.returns-then-n-eq-MOST_ELEMENTS c).After-whole_stream-cur)

pub overflow_add-n : goal.overflow_add-n
overflow_add-n c = omega (arith, c.loop-item.invariant.1)

pub loop-item-smaller : goal.loop-item-smaller
loop-item-smaller c = (meeting (goal.at.loop-item-smaller c).In-Some).less

pub loop-item-preserved : goal.loop-item-preserved
loop-item-preserved c =
    let m = meeting (goal.at.loop-item-preserved c).In-Some in
    let l = c.loop-item in
    (m.rest_fine, omega (arith, l.invariant.1, c.if-n-eq-MOST_ELEMENTS.false), omega (arith, l.invariant.2, ap tops m.tree))
