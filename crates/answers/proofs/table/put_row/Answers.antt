-- `answers::table::put_row` meets its contract: the scratch's numbers are copied, and the parent's row put behind them.
use mathlib.Core.Path.{refl, ap, ◌∙◌}
use mathlib.Core.List.{List}
use Prim.Native.Nat.{ℕ, ◌+◌, ◌*◌}
use native.Mathlib.Omega.{arith}
use lib.ListN.{set}
use lib.Seq.{paste}
use Rattle.rows.specs.Rows.{scratch_width}
use Rattle.elements.specs.ElementRows.{cells}
use Rattle.pieces.proofs.Putting.{part_slice}
use Rattle.letters.proofs.Telling.{rows_tell}
use Rattle.parents.specs.Parent.{parent, row_or_none}
use Rattle.answers.specs.Table.{table_width}
use Rattle.answers.proofs.Tabling.{scratch-slice, put-behind}
use Rattle.answers.proofs.table.put_row.Goals as goal

pub returns : goal.returns
returns c edition letter row there =
    let a = c.args in
    let j = a.j in
    let own = scratch-slice letter j row c.requires.j_lt_count.0 there in
    let part = part_slice (j * scratch_width) (j * scratch_width + scratch_width) a.rows.now (omega arith) in
    let put = c.copy_numbers.ensures ∙ ap (λ (l : List ℕ). paste a.table.now (j * table_width) l scratch_width) (part ∙ own) in
    let above = c.parent_of-parent.ensures.is letter.elements (rows_tell letter) in
    ap (λ (l : List ℕ). set l (j * table_width + scratch_width) c.parent_of-parent.result) put
    ∙ ap (λ (p : ℕ). set (paste a.table.now (j * table_width) (cells row) scratch_width) (j * table_width + scratch_width) p) above
    ∙ put-behind a.table.now (j * table_width) (cells row) (row_or_none (parent letter.elements j)) refl
    (omega (arith, c.requires.j_lt_count.0, c.requires.j_lt_count.2))
