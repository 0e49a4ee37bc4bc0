-- `lister_hex::feed` meets its contract: each byte is the next of what is left.
use mathlib.Core.Path.{sym, ◌∙◌}
use Rattle.lister_hex.specs.Blocks.{standing}
use Rattle.lister_hex.proofs.Blocks.{fed-next, fed-end}
use Rattle.lister_hex.proofs.feed.Goals as goal

pub loop-byte-preserved : goal.loop-byte-preserved
loop-byte-preserved c =
    let l = c.loop-byte in
    rw c.step-here.ensures (sym (fed-next (standing l.here l.out) c.args.block.now l.byte-index c.loop-byte-test.true) ∙ l.invariant)

pub returns : goal.returns
returns c =
    let l = c.loop-byte in
    sym (fed-end (standing l.here l.out) c.args.block.now l.byte-index c.loop-byte-test.false) ∙ l.invariant
