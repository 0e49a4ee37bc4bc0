-- `page::put_refused` meets its contract: the line is made by `lister_text::put_refused`, and put on the page as the front of its array.
use Rattle.hexlister.proofs.Pages.{puts-line}
use Rattle.hexlister.proofs.page.put_refused.Goals as goal

pub returns : goal.returns
returns c = puts-line c.put_refused-n.ensures c.append.ensures
