-- `making::writing::put_letter` meets its contract: two octets, and the entries after them.
use mathlib.Core.Path.{refl, ◌∙◌}
use Prim.Native.Nat.{◌/◌}
use lib.ListN.{length, length-set}
use native.Mathlib.Omega.{arith}
use Rattle.making.specs.Flat.{entry_width}
use Rattle.making.proofs.Lent.{size-some}
use Rattle.making.proofs.writing.put_letter.Goals as goal

pub bounds-out-0 : goal.bounds-out-0
bounds-out-0 c =
    let a = c.args in
    omega (arith, c.requires.2, size-some a.numbers.now (length a.numbers.now / entry_width))

pub bounds-out-1 : goal.bounds-out-1
bounds-out-1 c =
    let a = c.args in
    simp length-set (omega (arith, c.requires.2, size-some a.numbers.now (length a.numbers.now / entry_width)))

pub shape_of-out : goal.shape_of-out
shape_of-out c = c.put_entries.auto.out ∙ simp length-set refl
