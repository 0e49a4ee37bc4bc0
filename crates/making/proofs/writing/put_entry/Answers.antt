-- `making::writing::put_entry` meets its contract: a block, and its text unit after it.
use mathlib.Core.Path.{subst}
use mathlib.Core.List.{List}
use Prim.Native.Nat.{ℕ}
use native.Mathlib.Omega.{arith}
use Rattle.normal.specs.Passes.{PutsOctets}
use Rattle.making.specs.Entries.{said_by}
use Rattle.making.proofs.Putting.{puts_then, entry-pieces}
use Rattle.making.proofs.Sizes.{names-size, block_size}
use Rattle.making.proofs.writing.put_entry.Goals as goal

pub put_unit-requires : goal.put_unit-requires
put_unit-requires c =
    let said = said_by c.args.buffer.now c.args.entry in
    let n = names-size c.args.buffer.now c.args.entry c.requires.0 in
    (c.requires.0, c.requires.1, omega (arith, c.requires.2, c.put_block-past.ensures.to, c.put_block-past.auto.out, block_size said, n))

pub returns : goal.returns
returns c =
    subst (λ (xs : List ℕ). PutsOctets c.args.out.now c.args.at xs c.put_unit.result c.put_unit.new.out)
    (entry-pieces (said_by c.args.buffer.now c.args.entry))
    (puts_then c.put_block-past.ensures c.put_unit.ensures)
