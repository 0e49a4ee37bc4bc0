-- `page::put_unreadable` meets its contract: the line is made by `lister_text::put_unreadable`, and put on the page as the front of its array.
use Rattle.hexlister.proofs.Pages.{puts-line}
use Rattle.hexlister.proofs.page.put_unreadable.Goals as goal

pub returns : goal.returns
returns c = puts-line c.put_unreadable-n.ensures c.append.ensures
