-- `letters::writing::put_row` meets its contract: a copy of twelve numbers is twelve stores.
use mathlib.Core.Path.{sym, ap, ◌∙◌}
use mathlib.Core.List.{List}
use Prim.Native.Nat.{ℕ}
use native.Mathlib.Omega.{arith}
use lib.Seq.{paste, sets-eq}
use Rattle.rows.specs.Rows.{scratch_width}
use Rattle.elements.specs.ElementRows.{cells}
use Rattle.letters.proofs.writing.put_row.Goals as goal

pub returns : goal.returns
returns c =
    let a = c.args in
    c.copy_numbers.ensures
    ∙ ap (λ (numbers : List ℕ). paste a.rows.now a.at numbers scratch_width) c.cells_of-numbers.ensures
    ∙ sym (sets-eq (cells a.row) a.rows.now a.at (omega arith))
