-- `lister_hex::value` meets its contract: each arm's tests are those of the definition.
use Prim.Native.Nat.{ℕ, ◌<◌}
use borrow.Author.Tests.{le-leb, lt-leb, lt-ltb}
use mathlib.Core.Path.{◌≡◌, refl}
use native.Mathlib.Omega.{arith}
use Rattle.std.specs.Prelude.{Some, None}
use Rattle.lister_hex.specs.Lines.{digit_value, value_of}
use Rattle.lister_hex.proofs.value.Goals as goal

has : (b v : ℕ) → v < 16 → digit_value b ≡ v → Some v ≡ value_of b
has b v few e = rw (e, lt-ltb v 16 few)

has_none : (b : ℕ) → digit_value b ≡ 16 → None ≡ value_of b
has_none b e = rw e refl

pub returns-in-48-to-57 : goal.returns-in-48-to-57
unfolding digit_value
returns-in-48-to-57 c =
    let b = c.args.byte in
    has b _ (omega arith) (simp (le-leb 48 b (omega arith), le-leb b 57 (omega arith)))

pub returns-in-65-to-70 : goal.returns-in-65-to-70
unfolding digit_value
returns-in-65-to-70 c =
    let b = c.args.byte in
    has b _ (omega arith) (simp (le-leb 48 b (omega arith), lt-leb b 57 (omega arith), le-leb 65 b (omega arith), le-leb b 70 (omega arith)))

pub returns-in_default : goal.returns-in_default
unfolding digit_value
returns-in_default c =
    let b = c.args.byte in
    has_none b (simp (lt-leb 48 b (omega arith), lt-leb 65 b (omega arith)))

pub returns-in_default-2 : goal.returns-in_default-2
unfolding digit_value
returns-in_default-2 c =
    let b = c.args.byte in
    has_none b (simp (le-leb 48 b (omega arith), lt-leb b 57 (omega arith), lt-leb 65 b (omega arith)))

pub returns-in_default-3 : goal.returns-in_default-3
unfolding digit_value
returns-in_default-3 c =
    let b = c.args.byte in
    has_none b (simp (le-leb 48 b (omega arith), lt-leb b 57 (omega arith), le-leb 65 b (omega arith), lt-leb b 70 (omega arith)))
