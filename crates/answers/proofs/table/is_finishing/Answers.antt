-- `answers::table::is_finishing` meets its contract: it tests the two numbers.
use mathlib.Core.Path.{◌≡◌}
use mathlib.Core.Bool.{false}
use lib.Dec.{eqb}
use borrow.Author.Tests.{eq-eqb, ne_eqb}
use borrow.Table.Steps.{cases}
use Rattle.answers.proofs.table.is_finishing.Goals as goal

pub returns-then-number-eq0 : goal.returns-then-number-eq0
returns-then-number-eq0 c = rw (eq-eqb c.args.number 0 c.if-number-eq0.true)

pub returns-else-number-eq0 : goal.returns-else-number-eq0
returns-else-number-eq0 c =
    let n = c.args.number in
    let some : eqb n 0 ≡ false = ne_eqb n 0 c.if-number-eq0.false in
    cases (eqb n 19) (λ t. rw (some, t)) (λ t. rw (some, t))
