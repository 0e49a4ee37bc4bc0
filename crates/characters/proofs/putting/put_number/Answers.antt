-- `characters::putting::put_number` meets its contract: four points, one after another.
use Prim.Native.Nat.{◌+◌, ◌/◌, ◌%◌}
use native.Mathlib.Omega.{arith}
use mathlib.Core.Path.{ap, ◌∙◌}
use lib.ListN.{length}
use Rattle.characters.specs.Utf8.{utf8}
use Rattle.characters.proofs.Utf8.{join-four, number-octets, bracket-long, digit-long, number-long}
use Rattle.characters.specs.Signs.{hex_digit}
use Rattle.characters.proofs.putting.put_number.Goals as goal

pub put_point-a-requires : goal.put_point-a-requires
put_point-a-requires c =
    let o = c.args.octet in
    omega (arith, number-long o (omega arith), bracket-long.0)

pub put_point-b-requires : goal.put_point-b-requires
put_point-b-requires c =
    let o = c.args.octet in
    let e = ap (λ v. length (utf8 v)) c.hex.ensures in
    omega (arith, number-long o (omega arith), bracket-long.0, c.put_point-a.ensures.value, c.put_point-a.auto.out, e, digit-long (o / 16) (omega arith))

pub put_point-c-requires : goal.put_point-c-requires
put_point-c-requires c =
    let o = c.args.octet in
    let high = c.hex.ensures in
    let long = ap (λ v. length (utf8 v)) high in
    let low = c.hex-2.ensures in
    let long2 = ap (λ v. length (utf8 v)) low in
    omega (
      arith,
      number-long o (omega arith),
      bracket-long.0,
      bracket-long.1,
      c.put_point-a.ensures.value,
      c.put_point-a.auto.out,
      long,
      digit-long (o / 16) (omega arith),
      c.put_point-b.ensures.value,
      c.put_point-b.auto.out,
      long2,
      digit-long (o % 16) (omega arith),
    )

pub put_point-requires : goal.put_point-requires
put_point-requires c =
    let o = c.args.octet in
    let high = c.hex.ensures in
    let long = ap (λ v. length (utf8 v)) high in
    let low = c.hex-2.ensures in
    let long2 = ap (λ v. length (utf8 v)) low in
    omega (
      arith,
      number-long o (omega arith),
      bracket-long.0,
      bracket-long.1,
      c.put_point-a.ensures.value,
      c.put_point-a.auto.out,
      long,
      digit-long (o / 16) (omega arith),
      c.put_point-b.ensures.value,
      c.put_point-b.auto.out,
      long2,
      digit-long (o % 16) (omega arith),
      c.put_point-c.ensures.value,
      c.put_point-c.auto.out,
    )

pub returns : goal.returns
returns c =
    let o = c.args.octet in
    let high = c.hex.ensures in
    let long = ap (λ v. length (utf8 v)) high in
    let low = c.hex-2.ensures in
    let long2 = ap (λ v. length (utf8 v)) low in
    let a = c.args in record {
      value = c.put_point.ensures.value ∙ omega (
        arith,
        number-long o (omega arith),
        bracket-long.0,
        bracket-long.1,
        c.put_point-a.ensures.value,
        c.put_point-a.auto.out,
        long,
        digit-long (o / 16) (omega arith),
        c.put_point-b.ensures.value,
        c.put_point-b.auto.out,
        long2,
        digit-long (o % 16) (omega arith),
        c.put_point-c.ensures.value,
        c.put_point-c.auto.out,
      );
      out_after = rw (c.put_point.ensures.out_after, c.put_point-c.ensures.out_after, c.put_point-b.ensures.out_after, c.put_point-a.ensures.out_after, high, low, number-octets o)
          (join-four a.out.now a.at _ _ _ (utf8 0x27E6) (utf8 (hex_digit (o / 16))) (utf8 (hex_digit (o % 16))) (utf8 0x27E7)
          c.put_point-a.ensures.value (c.put_point-b.ensures.value ∙ ap (λ v. c.put_point-a.result + length (utf8 v)) high) (c.put_point-c.ensures.value ∙ ap (λ v. c.put_point-b.result + length (utf8 v)) low));
    }
