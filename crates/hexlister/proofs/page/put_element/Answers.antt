-- `page::put_element` meets its contract: the line is made by `lister_text::put_element` of three numbers of the row, and put on the page as the front
-- of its array.
use Rattle.hexlister.proofs.Pages.{puts-line}
use Rattle.hexlister.proofs.page.put_element.Goals as goal

pub returns : goal.returns
returns c = puts-line c.put_element-n.ensures c.append.ensures
