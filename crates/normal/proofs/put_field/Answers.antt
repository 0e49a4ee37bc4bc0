-- `normal::put_field` meets its contract: each octet of the type field is written where it belongs.
use mathlib.Core.Path.{◌≡◌, refl, ap}
use Prim.Native.Nat.{suc, ◌+◌}
use native.Mathlib.Omega.{arith}
use native.Mathlib.Numerals.{add-one}
use lib.ListN.{length, length-set}
use Rattle.headers.proofs.Fields.{field-size}
use Rattle.normal.proofs.Fields.{one-octet, two-octets, three-octets, two-at-least}
use Rattle.normal.proofs.put_field.Goals as goal

pub bounds-out-at : goal.bounds-out-at
bounds-out-at c = omega (arith, (field-size c.args.code).0, c.requires.1)

pub returns-then-code-ne31 : goal.returns-then-code-ne31
returns-then-code-ne31 c =
    let a = c.args in
    let e = one-octet a.code c.requires.0 c.if-code-ne31.true in
    rw e (record { to = omega arith; written = refl })

pub bounds-out-at-2 : goal.bounds-out-at-2
bounds-out-at-2 c =
    let a = c.args in
    let e = two-at-least a.code c.if-code-ne31.false in
    simp length-set (omega (arith, e, c.requires.1))

pub returns-then-rest-lt128 : goal.returns-then-rest-lt128
returns-then-rest-lt128 c =
    let a = c.args in
    let e = two-octets a.code c.requires.0 c.if-code-ne31.false c.if-rest-lt128.true in
    rw (e, add-one a.at) (record { to = omega arith; written = refl })

pub bounds-out-at-3 : goal.bounds-out-at-3
bounds-out-at-3 c =
    let pre = c.requires in
    let a = c.args in
    let e = ap length (three-octets a.code pre.0 c.if-code-ne31.false c.if-rest-lt128.false) in
    simp length-set (omega (arith, e, pre.1))

pub returns : goal.returns
returns c =
    let a = c.args in
    let e = three-octets a.code c.requires.0 c.if-code-ne31.false c.if-rest-lt128.false in
    let two : a.at + 2 ≡ suc (suc a.at) = omega arith in
    rw (e, add-one a.at, two) (record { to = omega arith; written = refl })
