-- `lister_text::put_number` meets its contract: it follows the two equations of a decimal number. Its measure is the number, whose tenth is less.
use Rattle.lister_text.proofs.+put_number.Given as goal

abbrev pub decreases-put_number : goal.decreases-put_number
decreases-put_number l = l.n
