-- `judging::hashes_of` meets its contract: each hash is that of its bytes, from 0.
use Rattle.laws.proofs.Parts.{part-slice}
use Rattle.judging.proofs.hashes_of.Goals as goal

pub returns : goal.returns
returns c =
    let s = c.args.s.now in
    let row = c.args.row in
    let (identifier, logical) = c.requires in
    rw (
      c.hash_over-2.ensures.0,
      c.hash_over.ensures.0,
      ← part-slice row.identifier.first row.identifier.past s identifier.order,
      ← part-slice row.logical.first row.logical.past s logical.order,
    )
