-- `page::put_sides` meets its contract: one side is put after the other.
use Rattle.hexlister.proofs.Pages.{puts-join}
use Rattle.hexlister.proofs.page.put_sides.Goals as goal

pub returns : goal.returns
returns c = puts-join c.put_side-layout.ensures c.put_side.ensures
