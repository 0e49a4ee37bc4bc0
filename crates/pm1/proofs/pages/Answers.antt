-- `pm1::pages` meets its contract: what the check answers, and how many pages there are, decide.
use native.Mathlib.Omega.{arith}
use Rattle.pm1.proofs.Outcomes.{pages-refused, countable, pages-30, ready, pages-all}
use Rattle.pm1.proofs.pages.Goals as goal

pub returns-then-checked-ne0 : goal.returns-then-checked-ne0
returns-then-checked-ne0 c =
    let list = c.args.list.now in
    rw c.refuse.ensures (pages-refused c.check-checked.ensures list c.if-checked-ne0.true)

pub count_pages-count-requires : goal.count_pages-count-requires
count_pages-count-requires c =
    let list = c.args.list.now in
    countable c.check-checked.ensures list c.if-checked-ne0.false c.check-checked.auto.table

pub returns-then-list-count : goal.returns-then-list-count
returns-then-list-count c =
    let list = c.args.list.now in
    rw c.refuse-then-list-count.ensures (pages-30 c.check-checked.ensures list
    c.if-checked-ne0.false c.count_pages-count.ensures.0 c.if-list-count.true)

pub put_pages-requires : goal.put_pages-requires
put_pages-requires c =
    let list = c.args.list.now in
    ready c.check-checked.ensures list c.if-checked-ne0.false c.count_pages-count.ensures.0
    c.if-list-count.false c.check-checked.auto.table

pub overflow_cast-result : goal.overflow_cast-result
overflow_cast-result c =
    let list = c.args.list.now in
    let few = countable c.check-checked.ensures list c.if-checked-ne0.false c.check-checked.auto.table in
    omega (arith, few, c.count_pages-count.ensures.1)

pub returns : goal.returns
returns c =
    let list = c.args.list.now in
    let check = c.check-checked.ensures in
    pages-all check list c.if-checked-ne0.false
    c.count_pages-count.ensures.0 c.if-list-count.false
    c.put_pages.ensures
