-- `rows::order::is_before` meets its contract: the name spaces decide, or, if they are the same, the names.
use mathlib.Core.Path.{◌≡◌, sym, ap, ◌∙◌}
use mathlib.Core.Bool.{true}
use borrow.Author.Tests.{eq-eqb, ne_eqb}
use lib.Dec.{eqb}
use Rattle.rows.specs.Rows.{name_space_of}
use Rattle.rows.specs.Columns.{kind_at}
use Rattle.rows.specs.Order.{less}
use Rattle.rows.proofs.order.is_before.Goals as goal
use Rattle.rows.proofs.order.is_before.Goals.{After-space_of-own}

-- the row's own name space
own_is : (c : After-space_of-own) → c.space_of-own.result ≡ name_space_of (kind_at c.args.rows.now c.args.j)
own_is c = c.space_of-own.ensures ∙ ap name_space_of c.kind_at.ensures

pub returns-then-own-space : goal.returns-then-own-space
unfolding less
returns-then-own-space c =
    rw (← own_is (goal.at.returns-then-own-space c).After-space_of-own, ne_eqb _ _ (λ e. c.if-own-space.true (sym e)))

pub returns : goal.returns
unfolding less
returns c =
    let a = c.args in
    let same : eqb a.space (name_space_of (kind_at a.rows.now a.j)) ≡ true =
    eq-eqb _ _ (sym c.if-own-space.false ∙ own_is (goal.at.returns c).After-space_of-own) in
    rw (same, ← c.value_at.ensures) c.is_asked_less.ensures
