-- `lister_text::put_line` meets its contract: the word and the rest are stored one after the other.
use Rattle.lister_text.proofs.Stores.{written}
use Rattle.lister_text.proofs.put_line.Goals as goal

pub returns : goal.returns
returns c =
    let a = c.args in
    written a.word.now a.numbers.now a.out.now _ _ _ _ c.put_word-at.ensures.value c.put_word-at.ensures.out_after c.put_rest.ensures.value c.put_rest.ensures.out_after
