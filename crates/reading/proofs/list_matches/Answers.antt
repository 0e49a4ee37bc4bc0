-- `reading::list_matches` meets its contract: a side for each case, with the index of its identifiers.
use mathlib.Core.Path.{sym, subst}
use mathlib.Core.List.{List}
use Prim.Native.Nat.{ℕ}
use Rattle.rows.specs.Columns.{identifier_column, logical_column}
use Rattle.rows.specs.Index.{Filed}
use Rattle.reading.specs.declared.Side.TheVariants.{Layout, Logical}
use Rattle.reading.proofs.Scratch.{puts-list}
use Rattle.reading.proofs.list_matches.Goals as goal

pub list_side-requires : goal.list_side-requires
list_side-requires c =
    let filed = subst (λ (index : List ℕ). Filed c.args.s.now c.args.rows.now identifier_column index c.args.n)
    (sym c.identifiers.ensures) c.requires.both_filed.identifiers in
    record { letter_rows = c.requires.letter_rows; filed = filed; n_in_bounds = c.requires.n_in_bounds }

pub list_side-requires-in-Logical : goal.list_side-requires-in-Logical
list_side-requires-in-Logical c =
    let filed = subst (λ (index : List ℕ). Filed c.args.s.now c.args.rows.now logical_column index c.args.n)
    (sym c.logicals.ensures) c.requires.both_filed.logicals in
    record { letter_rows = c.requires.letter_rows; filed = filed; n_in_bounds = c.requires.n_in_bounds }

pub returns-in-Layout : goal.returns-in-Layout
returns-in-Layout c =
    λ edition letter. puts-list letter c.args.side Layout c.in-Layout.is
    c.args.flat.now _ _ c.requires.n_in_bounds c.list_side.ensures

pub returns-in-Logical : goal.returns-in-Logical
returns-in-Logical c =
    λ edition letter. puts-list letter c.args.side Logical c.in-Logical.is
    c.args.flat.now _ _ c.requires.n_in_bounds c.list_side-in-Logical.ensures
