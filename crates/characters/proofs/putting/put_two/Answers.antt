-- `characters::putting::put_two` meets its contract: two points, one after another.
use native.Mathlib.Omega.{arith}
use mathlib.Core.Path.{◌∙◌}
use lib.ListN.{length-append}
use Rattle.characters.specs.Utf8.{utf8}
use Rattle.characters.proofs.Utf8.{join}
use Rattle.characters.proofs.putting.put_two.Goals as goal

pub put_point-n-requires : goal.put_point-n-requires
put_point-n-requires c = omega (arith, length-append (utf8 c.args.p) (utf8 c.args.q))

pub put_point-requires : goal.put_point-requires
put_point-requires c =
    let a = c.args in
    omega (arith, length-append (utf8 a.p) (utf8 a.q), c.put_point-n.ensures.value, c.put_point-n.auto.out)

pub returns : goal.returns
returns c =
    let a = c.args in
    record { value = c.put_point.ensures.value ∙ omega (arith, c.put_point-n.ensures.value, length-append (utf8 a.p) (utf8 a.q)); out_after = rw (c.put_point.ensures.out_after, c.put_point-n.ensures.out_after) (join a.out.now a.at _ (utf8 a.p) (utf8 a.q) c.put_point-n.ensures.value) }
