-- `normal::put_header` meets its contract: the type field is written, and then the length octets.
use mathlib.Core.Path.{ap, sym, ◌∙◌}
use mathlib.Core.List.{List}
use Prim.Native.Nat.{ℕ}
use native.Mathlib.Omega.{arith}
use lib.ListN.{length-append}
use lib.Seq.{sets}
use Rattle.headers.specs.Head.{type_field}
use Rattle.normal.specs.Normal.{length_octets}
use Rattle.laws.proofs.Writes.{sets-append}
use Rattle.normal.proofs.put_header.Goals as goal

pub put_length-requires : goal.put_length-requires
put_length-requires c =
    omega (arith, c.put_field-past.ensures.to, c.put_field-past.auto.out, c.requires.2)

pub shape_of-out : goal.shape_of-out
shape_of-out c = c.put_length.auto.out ∙ c.put_field-past.auto.out

pub returns : goal.returns
returns c =
    let put-field = c.put_field-past in
    let a = c.args in
    let f = put-field.ensures in
    let p = c.put_length.ensures in
    let type = type_field a.code in
    let len = length_octets a.size in
    record {
      to = omega (arith, p.to, f.to, length-append type len);
      written = p.written ∙ ap (λ (l : List ℕ). sets l put-field.result len) f.written
          ∙ ap (λ (k : ℕ). sets (sets a.out.now a.begin type) k len) f.to ∙ sym (sets-append a.out.now a.begin type len);
    }
