-- `names::hash_over` meets its contract: the hash so far, after what is left, is the hash of the whole.
use mathlib.Core.Path.{sym, ap, ◌∙◌}
use lib.ListN.{drop_of_length-le}
use Rattle.std.proofs.lemmas.List.{drop_more}
use Rattle.names.specs.Hash.{hash_from}
use Rattle.names.proofs.hash_over.Goals as goal

pub loop-byte-preserved : goal.loop-byte-preserved
unfolding hash_from
loop-byte-preserved c =
    let l = c.loop-byte in
    let next = c.hash_byte-r.ensures in
    (next.1, l.invariant.1 ∙ ap (hash_from l.r) (drop_more c.args.bytes.now l.byte-index 0 c.loop-byte-test.true) ∙ rw next.0)

pub returns : goal.returns
unfolding hash_from
returns c =
    let l = c.loop-byte in
    (sym (l.invariant.1 ∙ rw (drop_of_length-le c.args.bytes.now c.loop-byte-test.false)), l.invariant.0)
