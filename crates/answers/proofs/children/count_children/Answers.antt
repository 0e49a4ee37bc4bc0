-- `answers::children::count_children` meets its contract. The loop's invariant: those that were found, and those that are left.
use mathlib.Core.Path.{◌≡◌, ap}
use Prim.Native.Nat.{ℕ, suc, ◌+◌, ◌-◌}
use native.Mathlib.Omega.{arith}
use lib.ListN.{length}
use Rattle.answers.specs.Filling.{rows_with}
use Rattle.answers.proofs.Tabling.{rows-hit, rows-miss, rows-done}
use Rattle.answers.proofs.children.count_children.Goals as goal
use Rattle.answers.proofs.children.count_children.Goals.{then-parent-row, else-parent-row}

pub loop-j-init : goal.loop-j-init
loop-j-init c =
    let a = c.args in
    let e : a.count - 0 ≡ a.count = omega arith in
    let l : length (rows_with a.table.now a.row 0 (a.count - 0)) ≡ length (rows_with a.table.now a.row 0 a.count) =
    ap (λ (k : ℕ). length (rows_with a.table.now a.row 0 k)) e in
    (omega arith, omega arith, omega arith)

pub loop-j-preserved : goal.loop-j-preserved
loop-j-preserved c =
    let a = c.args in
    let l = c.loop-j in
    let below = c.loop-j-test.true in
    elim c.if-parent-row.branch [
      | then-parent-row w ↦
          let hit = rows-hit a.table.now a.row l.j a.count below w.if-parent-row.true in
          let size : length (rows_with a.table.now a.row l.j (a.count - l.j))
          ≡ suc (length (rows_with a.table.now a.row (l.j + 1) (a.count - (l.j + 1)))) = ap length hit in
          (omega arith, omega (arith, w.found-is), omega (arith, l.invariant.2, w.found-is))
      | else-parent-row w ↦
          let miss = rows-miss a.table.now a.row l.j a.count below w.if-parent-row.false in
          let size = ap length miss in
          (omega arith, omega (arith, w.found-is), omega (arith, l.invariant.2, w.found-is))
    ]

pub returns : goal.returns
returns c =
    let a = c.args in
    let l = c.loop-j in
    let size = ap length (rows-done a.table.now a.row l.j a.count c.loop-j-test.false) in
    omega (arith, l.invariant.2)
