-- `order_b::fault_b` meets its contract: the first element, then the pass.
use mathlib.Core.Path.{◌≡◌, ◌∙◌}
use Prim.Native.Nat.{ℕ, ◌<◌}
use native.Mathlib.Omega.{arith}
use lib.ListN.{length}
use Rattle.order_b.specs.Steps.{state_of}
use Rattle.order_b.proofs.Passing.{first_stops, first-starts, none-fault}
use Rattle.order_b.proofs.fault_b.Goals as goal

positive : (n : ℕ) → (n ≡ 0 → ⊥) → 0 < n
positive n other = omega arith

pub returns-then-n-eq0 : goal.returns-then-n-eq0
returns-then-n-eq0 c elements ready aside = none-fault elements (ready.counted ∙ c.if-n-eq0.true)

pub first_step-requires : goal.first_step-requires
first_step-requires c = record { letter_rows = c.requires.letter_rows; filed = c.requires.filed; n_nonzero = positive _ c.if-n-eq0.false }

pub pass-requires : goal.pass-requires
pass-requires c = record { letter_rows = c.requires.letter_rows; filed = c.requires.filed; n_nonzero = positive _ c.if-n-eq0.false }

pub returns-in-None : goal.returns-in-None
returns-in-None c elements ready aside =
    let some-rows : 0 < length elements = omega (arith, positive _ c.if-n-eq0.false, ready.counted) in
    first_stops elements aside some-rows (c.in-None.ensures elements ready aside)

pub returns-in-Some : goal.returns-in-Some
returns-in-Some c elements ready aside =
    let some-rows : 0 < length elements = omega (arith, positive _ c.if-n-eq0.false, ready.counted) in
    c.pass.ensures elements ready aside
    ∙ first-starts elements aside some-rows (state_of c.in-Some.start) (c.in-Some.ensures elements ready aside)
