-- `page::put_match` meets its contract: the line of the side is made, and put on the page as the front of its array.
use mathlib.Core.Path.{◌≡◌}
use Rattle.reading.specs.declared.Side.TheVariants.{Layout, Logical}
use Rattle.hexlister.proofs.Pages.{puts-line}
use Rattle.hexlister.proofs.page.put_match.Goals as goal

pub returns-in-Layout : goal.returns-in-Layout
returns-in-Layout c =
    let e : c.args.side ≡ Layout = c.in-Layout.is in
    rw e (puts-line c.put_layout-n.ensures c.append.ensures)

pub returns-in-Logical : goal.returns-in-Logical
returns-in-Logical c =
    let e : c.args.side ≡ Logical = c.in-Logical.is in
    rw e (puts-line c.put_logical-n.ensures c.append-in-Logical.ensures)
