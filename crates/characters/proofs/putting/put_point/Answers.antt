-- `characters::putting::put_point` meets its contract: the stores are those of `utf8`, by the size of the point.
use Prim.Native.Nat.{◌<◌}
use native.Mathlib.Omega.{arith}
use mathlib.Core.Path.{refl}
use lib.ListN.{length-set}
use Rattle.characters.proofs.Utf8.{utf8-one, utf8-two, utf8-three, one-long, two-long, three-long, two-stores, three-stores}
use Rattle.characters.proofs.putting.put_point.Goals as goal

pub bounds-out-at : goal.bounds-out-at
bounds-out-at c = omega (arith, one-long c.args.p c.if-p-lt128.true)

pub returns-then-p-lt128 : goal.returns-then-p-lt128
returns-then-p-lt128 c = rw (utf8-one c.args.p c.if-p-lt128.true) (record { value = refl; out_after = refl })

pub bounds-out-at-then-p-lt2048 : goal.bounds-out-at-then-p-lt2048
bounds-out-at-then-p-lt2048 c = omega (arith, two-long c.args.p c.if-p-lt128.false c.if-p-lt2048.true)

pub bounds-out-at-then-p-lt2048-2 : goal.bounds-out-at-then-p-lt2048-2
bounds-out-at-then-p-lt2048-2 c = simp length-set (omega (arith, two-long c.args.p c.if-p-lt128.false c.if-p-lt2048.true))

pub returns-then-p-lt2048 : goal.returns-then-p-lt2048
returns-then-p-lt2048 c =
    let a = c.args in
    rw (utf8-two a.p c.if-p-lt128.false c.if-p-lt2048.true) (record { value = refl; out_after = two-stores a.out.now a.at _ _ })

pub bounds-out-at-2 : goal.bounds-out-at-2
bounds-out-at-2 c = omega (arith, three-long c.args.p c.if-p-lt2048.false (omega arith))

pub bounds-out-at-3 : goal.bounds-out-at-3
bounds-out-at-3 c = simp length-set (omega (arith, three-long c.args.p c.if-p-lt2048.false (omega arith)))

pub bounds-out-at-4 : goal.bounds-out-at-4
bounds-out-at-4 c = simp length-set (omega (arith, three-long c.args.p c.if-p-lt2048.false (omega arith)))

pub returns : goal.returns
returns c =
    let a = c.args in
    let small : a.p < 0x10000 = omega arith in
    rw (utf8-three a.p c.if-p-lt2048.false small) (record { value = refl; out_after = three-stores a.out.now a.at _ _ _ })
