-- `order_a::fault_a` meets its contract: the first is the profile, and then the pass.
use mathlib.Core.Path.{sym, ◌∙◌}
use Prim.Native.Nat.{◌<◌}
use native.Mathlib.Omega.{arith}
use mathlib.Core.Logic.{inl, inr}
use Rattle.owners.proofs.Telling.{kind-told}
use Rattle.order_a.proofs.Passing.{no_profile}
use Rattle.order_a.proofs.fault_a.Goals as goal
use Rattle.order_a.proofs.fault_a.Goals.{then-n-eq0-via-then-n-eq0, then-n-eq0-via-else-n-eq0+then-kind_at-ne-PROFILE}

pub returns-then-n-eq0 : goal.returns-then-n-eq0
returns-then-n-eq0 c =
    elim c.then-n-eq0.branch [
      | then-n-eq0-via-then-n-eq0 w ↦ λ elements ready aside. no_profile elements aside (inl (ready.counted ∙ w.if-n-eq0.true))
      | then-n-eq0-via-else-n-eq0+then-kind_at-ne-PROFILE w ↦
          λ elements ready aside.
          let l : 0 < c.args.n = omega arith in
          no_profile elements aside (inr (λ e. w.if-kind_at-ne-PROFILE.true (w.kind_at.ensures ∙ kind-told ready 0 l ∙ e)))
    ]

pub pass-requires : goal.pass-requires
pass-requires c =
    record { letter_rows = c.requires.letter_rows; filed = c.requires.filed; n_nonzero = (omega arith, sym c.kind_at.ensures ∙ c.if-kind_at-ne-PROFILE.false) }
