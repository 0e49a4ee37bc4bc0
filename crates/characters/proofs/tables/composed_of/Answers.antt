-- `characters::tables::composed_of` meets its contract: the lent table has the pairs, and what is outside of it is none.
use Prim.Native.Nat.{◌+◌, ◌-◌, ◌*◌}
use native.Mathlib.Omega.{arith}
use mathlib.Core.Path.{refl, sym}
use Rattle.characters.proofs.Rules.{pair-space, pair-letter, no-accent-below, no-accent-above, no-letter-below, no-letter-above}
use Rattle.characters.proofs.tables.composed_of.Goals as goal

pub returns-then-a-lt192 : goal.returns-then-a-lt192
returns-then-a-lt192 c =
    let a = c.args in
    sym (no-accent-below a.a a.b (omega arith))

pub returns-then-a-gt207 : goal.returns-then-a-gt207
returns-then-a-gt207 c =
    let a = c.args in
    sym (no-accent-above a.a a.b (omega arith))

pub returns-then-b-eq32 : goal.returns-then-b-eq32
returns-then-b-eq32 c =
    let a = c.args in
    let table = c.requires in
    pair-space a.pairs.now table a.a a.b ((a.a - 0xC0) * 64) (omega arith) (omega arith) c.if-b-eq32.true refl

pub returns-then-b-le64 : goal.returns-then-b-le64
returns-then-b-le64 c =
    let a = c.args in
    sym (no-letter-below a.a a.b c.if-b-eq32.false (omega arith))

pub returns-then-b-gt127 : goal.returns-then-b-gt127
returns-then-b-gt127 c =
    let a = c.args in
    sym (no-letter-above a.a a.b (omega arith))

pub returns : goal.returns
returns c =
    let a = c.args in
    let table = c.requires in
    pair-letter a.pairs.now table a.a a.b ((a.a - 0xC0) * 64 + (a.b - 0x40)) (omega arith) (omega arith) (omega arith) (omega arith) refl
