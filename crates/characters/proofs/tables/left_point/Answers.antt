-- `characters::tables::left_point` meets its contract: the tests are those of the definition.
use Rattle.characters.specs.Sets.{left_point}
use Rattle.characters.proofs.tables.left_point.Goals as goal

pub returns-then-is_currency : goal.returns-then-is_currency
unfolding left_point
returns-then-is_currency c = rw (← c.is_currency.ensures, c.if-is_currency.true)

pub returns-then-is_own : goal.returns-then-is_own
unfolding left_point
returns-then-is_own c =
    let no = c.is_currency.ensures in
    let own = c.is_own.ensures in
    rw (← no, c.if-is_currency.false, ← own, c.if-is_own.true)

pub returns : goal.returns
unfolding left_point
returns c =
    let no = c.is_currency.ensures in
    rw (← no, c.if-is_currency.false, ← c.is_own.ensures, c.if-is_own.false)
