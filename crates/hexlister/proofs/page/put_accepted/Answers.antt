-- `page::put_accepted` meets its contract: the line is made by `lister_text::put_accepted`, and put on the page as the front of its array.
use Rattle.hexlister.proofs.Pages.{puts-line}
use Rattle.hexlister.proofs.page.put_accepted.Goals as goal

pub returns : goal.returns
returns c = puts-line c.put_accepted-n.ensures c.append.ensures
