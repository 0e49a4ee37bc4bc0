-- `normal::put_length` meets its contract: the first length octet is written, and then the others.
use mathlib.Core.Path.{◌≡◌, sym, ◌∙◌}
use native.Mathlib.Omega.{arith}
use lib.ListN.{length-set}
use Rattle.normal.specs.Normal.{further_octets}
use Rattle.normal.proofs.Lengths.{length-length, further-le, put-short, put-long}
use Rattle.normal.proofs.put_length.Goals as goal

pub overflow_cast-out-else-further-eq0 : goal.overflow_cast-out-else-further-eq0
overflow_cast-out-else-further-eq0 c = omega (arith, further-le c.args.len)

pub overflow_add-out : goal.overflow_add-out
overflow_add-out c = omega (arith, further-le c.args.len)

pub put_digits-requires : goal.put_digits-requires
put_digits-requires c = simp length-set (omega arith)

pub returns-then-further-eq0 : goal.returns-then-further-eq0
returns-then-further-eq0 c =
    let a = c.args in
    let none : further_octets a.len ≡ 0 = sym c.further_octets-further.ensures ∙ c.if-further-eq0.true in
    record { to = omega (arith, length-length a.len); written = put-short a.out.now a.at a.len none }

pub shape_of-out-else-further-eq0 : goal.shape_of-out-else-further-eq0
shape_of-out-else-further-eq0 c = c.put_digits.auto.out ∙ simp length-set

pub returns-else-further-eq0 : goal.returns-else-further-eq0
returns-else-further-eq0 c =
    let a = c.args in
    let k = c.further_octets-further in
    record {
      to = omega (arith, length-length a.len);
      written = c.put_digits.ensures
          ∙ put-long a.out.now a.at a.len k.result k.ensures c.if-further-eq0.false;
    }
