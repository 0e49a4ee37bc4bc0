-- `rows::lookup::chained_of` meets its contract: it is read off the mark.
use mathlib.Core.Path.{sym}
use Rattle.rows.proofs.Filing.{chained-all, chained-some}
use Rattle.rows.proofs.lookup.chained_of.Goals as goal

pub returns-then-mark-eq0 : goal.returns-then-mark-eq0
returns-then-mark-eq0 c = sym (chained-all c.args.next.now c.args.n c.if-mark-eq0.true)

pub returns : goal.returns
returns c = sym (chained-some c.args.next.now c.args.n c.if-mark-eq0.false)
