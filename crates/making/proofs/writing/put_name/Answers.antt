-- `making::writing::put_name` meets its contract: a front, the identifier, a space, the portion.
use mathlib.Core.Path.{◌∙◌}
use native.Mathlib.Omega.{arith}
use lib.ListN.{length-set}
use Rattle.making.proofs.Putting.{puts_then, put_one}
use Rattle.making.proofs.Sizes.{part-size}
use Rattle.making.proofs.writing.put_name.Goals as goal

pub bounds-out-named : goal.bounds-out-named
bounds-out-named c =
    let buffer = c.args.buffer.now in
    let entry = c.args.entry in
    let lies = c.requires.0 in
    let i = part-size buffer entry.identifier lies.identifier in
    omega (arith, c.requires.1, c.requires.2, c.put_four-fronted.ensures.to, c.put_four-fronted.auto.out, c.put_part-named.ensures.to, c.put_part-named.auto.out, i)

pub overflow_add-named : goal.overflow_add-named
overflow_add-named c =
    let buffer = c.args.buffer.now in
    let entry = c.args.entry in
    let lies = c.requires.0 in
    let i = part-size buffer entry.identifier lies.identifier in
    omega (arith, c.requires.1, c.requires.2, c.put_four-fronted.ensures.to, c.put_four-fronted.auto.out, c.put_part-named.ensures.to, c.put_part-named.auto.out, i)

pub put_part-requires : goal.put_part-requires
put_part-requires c =
    let buffer = c.args.buffer.now in
    let entry = c.args.entry in
    let lies = c.requires.0 in
    let i = part-size buffer entry.identifier lies.identifier in (
      lies.portion,
      simp length-set (omega (arith, c.requires.1, c.requires.2, c.put_four-fronted.ensures.to, c.put_four-fronted.auto.out, c.put_part-named.ensures.to, c.put_part-named.auto.out, i)),
    )

pub shape_of-out : goal.shape_of-out
shape_of-out c = c.put_part.auto.out
    ∙ simp length-set (c.put_part-named.auto.out
    ∙ c.put_four-fronted.auto.out)

pub returns : goal.returns
returns c = puts_then c.put_four-fronted.ensures
    (puts_then c.put_part-named.ensures (puts_then (put_one _ _ _) c.put_part.ensures))
