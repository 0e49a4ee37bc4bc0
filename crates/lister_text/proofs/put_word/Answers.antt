-- `lister_text::put_word` meets its contract: what is copied to the front is stored there.
use mathlib.Core.Path.{sym}
use Rattle.lister_text.proofs.Stores.{front}
use Rattle.lister_text.proofs.put_word.Goals as goal

pub returns-clause-out_after : goal.returns-clause-out_after
returns-clause-out_after c = rw c.copy_from_slice.ensures.after (sym (front c.args.word.now c.args.out.now c.requires))
