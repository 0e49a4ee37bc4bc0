-- `making::writing::put_block` meets its contract: its front, its identifier, and its portion in its run.
use mathlib.Core.Path.{sym, ◌∙◌, subst}
use mathlib.Core.List.{List}
use Prim.Native.Nat.{ℕ}
use native.Mathlib.Omega.{arith}
use Rattle.normal.specs.Passes.{PutsOctets}
use Rattle.making.specs.Entries.{said_by}
use Rattle.making.proofs.Putting.{puts_then}
use Rattle.making.proofs.Sizes.{part-size, block-by}
use Rattle.making.proofs.writing.put_block.Goals as goal

pub put_four-listed-requires : goal.put_four-listed-requires
put_four-listed-requires c =
    let buffer = c.args.buffer.now in
    let entry = c.args.entry in
    let lies = c.requires.0 in
    let i = part-size buffer entry.identifier lies.identifier in
    omega (
      arith,
      lies.short,
      c.requires.1,
      c.put_front-fronted.ensures.to,
      c.put_front-fronted.auto.out,
      c.put_part-named.ensures.to,
      c.put_part-named.auto.out,
      i,
      c.size_of-identifier.ensures,
      c.size_of-portion.ensures,
    )

pub put_part-requires : goal.put_part-requires
put_part-requires c =
    let buffer = c.args.buffer.now in
    let entry = c.args.entry in
    let lies = c.requires.0 in
    let i = part-size buffer entry.identifier lies.identifier in (
      lies.portion,
      omega (
        arith,
        lies.short,
        c.requires.1,
        c.put_front-fronted.ensures.to,
        c.put_front-fronted.auto.out,
        c.put_part-named.ensures.to,
        c.put_part-named.auto.out,
        i,
        c.size_of-identifier.ensures,
        c.size_of-portion.ensures,
        c.put_four-listed.ensures.to,
        c.put_four-listed.auto.out,
      ),
    )

pub returns : goal.returns
returns c =
    let size_of = c.size_of-identifier in
    let size_of2 = c.size_of-portion in
    let buffer = c.args.buffer.now in
    let entry = c.args.entry in
    let lies = c.requires.0 in
    let e = size_of.ensures ∙ sym (part-size buffer entry.identifier lies.identifier) in
    let f = size_of2.ensures ∙ sym (part-size buffer entry.portion lies.portion) in
    subst (λ (xs : List ℕ). PutsOctets c.args.out.now c.args.at xs c.put_part.result c.put_part.new.out)
    (block-by (said_by buffer entry) size_of.result size_of2.result e f)
    (puts_then c.put_front-fronted.ensures (puts_then c.put_part-named.ensures (puts_then c.put_four-listed.ensures c.put_part.ensures)))
