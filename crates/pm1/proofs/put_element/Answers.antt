-- `pm1::put_element` meets its contract: what is no page puts nothing.
use mathlib.Core.Path.{◌≡◌, sym, ◌∙◌}
use mathlib.Core.Bool.{true}
use native.Mathlib.Omega.{arith}
use Rattle.pm1.specs.Pages.{is_page}
use Rattle.pm1.specs.ByTable.{kind_at, object_at}
use Rattle.pm1.proofs.Putting.{puts_none, room-one, puts_one}
use Rattle.pm1.proofs.put_element.Goals as goal

pub returns-then-not-is_page : goal.returns-then-not-is_page
returns-then-not-is_page c =
    let a = c.args in
    puts_none a.list.now a.count _ _ (sym c.is_page.ensures ∙ c.if-not-is_page.true)

pub put_page-requires : goal.put_page-requires
put_page-requires c =
    let a = c.args in
    let is : is_page (kind_at a.table.now a.element) (object_at a.table.now a.element) ≡ true =
    sym c.is_page.ensures ∙ c.if-not-is_page.false in
    (room-one a.count _ _ _ is c.requires.inner_in_bounds, omega arith)

pub returns : goal.returns
returns c =
    let a = c.args in
    let v = c.verdict_of-verdict.ensures in
    let is : is_page (kind_at a.table.now a.element) (object_at a.table.now a.element) ≡ true = sym
    c.is_page.ensures ∙ c.if-not-is_page.false in
    puts_one a.list.now a.count a.element _ _ _ _ is v c.put_page.ensures
