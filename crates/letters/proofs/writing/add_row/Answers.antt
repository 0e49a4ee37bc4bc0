-- `letters::writing::add_row` meets its contract: the row is written, and then both indexes are one row longer.
use mathlib.Core.Path.{sym, ap, ◌∙◌, subst}
use mathlib.Core.List.{List}
use Prim.Native.Nat.{ℕ, ◌+◌, ◌<◌}
use native.Mathlib.Omega.{arith}
use lib.ListN.{length}
use Rattle.names.specs.Hash.{hash}
use Rattle.rows.specs.Columns.{identifier_column, logical_column}
use Rattle.rows.specs.Index.{links_of, Filed, identifier_index, logical_index}
use Rattle.rows.proofs.Halves.{first-size, first-half}
use Rattle.judging.specs.declared.Hashes.{Hashes}
use Rattle.letters.proofs.Grow.{narrow, identifier-written, logical-written, holds_more, second-left, both-filed}
use Rattle.letters.proofs.writing.add_row.Goals as goal

pub put_row-requires : goal.put_row-requires
put_row-requires c =
    (c.requires.scratch_width_in_bounds.0, narrow c.args.s.now c.args.row c.requires.row_placed.2 c.requires.row_placed.0)

pub slice_bounds-insert-end-2 : goal.slice_bounds-insert-end-2
slice_bounds-insert-end-2 c = first-size c.args.index.now c.half_of-half.ensures

pub insert-requires : goal.insert-requires
insert-requires c =
    let half = first-half c.args.index.now c.half_of-half.ensures in
    let w = identifier-written c.requires.done_rows.2 c.requires.scratch_width_in_bounds.0 c.requires.row_placed.0 c.put_row.ensures (identifier_index c.args.index.now)
    c.requires.both_filed.identifiers in record { bounded = w.bounded; filed = subst (λ (index : List ℕ). Filed c.args.s.now c.put_row.new.rows identifier_column index c.args.n) (sym half) w.filed; n_in_bounds = subst (λ (index : List ℕ). c.args.n + 1 < length (links_of index)) (sym half) c.requires.scratch_width_in_bounds.1.identifiers; n_bound = omega (arith, c.requires.scratch_width_in_bounds.2); hashed_value = ap (λ (h : Hashes). h.identifier) c.requires.row_placed.1 ∙ ap hash (sym w.value) }

pub insert-requires-2 : goal.insert-requires-2
insert-requires-2 c =
    let half = second-left c.args.index.now c.half_of-half.ensures c.insert.new.index c.insert.ensures.index_len_unchanged in
    let w = logical-written c.requires.done_rows.2 c.requires.scratch_width_in_bounds.0 c.requires.row_placed.0 c.put_row.ensures (logical_index c.args.index.now)
    c.requires.both_filed.logicals in record { bounded = w.bounded; filed = subst (λ (index : List ℕ). Filed c.args.s.now c.put_row.new.rows logical_column index c.args.n) (sym half) w.filed; n_in_bounds = subst (λ (index : List ℕ). c.args.n + 1 < length (links_of index)) (sym half) c.requires.scratch_width_in_bounds.1.logicals; n_bound = omega (arith, c.requires.scratch_width_in_bounds.2); hashed_value = ap (λ (h : Hashes). h.logical) c.requires.row_placed.1 ∙ ap hash (sym w.value) }

pub returns : goal.returns
returns c =
    record {
      grows = λ table done e holds says. holds_more holds c.requires.scratch_width_in_bounds.0 c.requires.row_placed.0 c.put_row.ensures e says;
      both_filed_2 = both-filed c.args.index.now c.half_of-half.ensures c.insert.new.index c.insert.ensures.index_len_unchanged c.insert-2.new.index
          c.insert-2.ensures.index_len_unchanged c.insert.ensures.filed_2 c.insert-2.ensures.filed_2;
    }
