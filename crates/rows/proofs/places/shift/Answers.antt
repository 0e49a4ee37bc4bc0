-- `rows::places::shift` meets its contract: what is copied within the slice stands one place further.
use mathlib.Core.Path.{◌≡◌, ap, ◌∙◌}
use Prim.Native.Nat.{ℕ, ◌+◌, ◌-◌}
use native.Mathlib.Omega.{arith}
use lib.ListN.{get_or}
use Rattle.rows.proofs.places.shift.Goals as goal

pub returns : goal.returns
returns c =
    let p = c.args.p in
    let h = c.copy_within.ensures.by_index in record {
      size = c.copy_within.ensures.len;
      before = λ i l. h.1 i 0 (omega arith);
      moved = λ i l m.
          let e : p + (i - (p + 1)) ≡ i - 1 = omega arith in
          h.0 i 0 (omega arith) (omega arith) ∙ ap (λ (j : ℕ). get_or c.args.next.now j 0) e;
      beyond = λ i l. h.2 i 0 (omega arith);
    }
