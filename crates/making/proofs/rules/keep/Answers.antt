-- `making::rules::keep` meets its contract: three numbers of a row are written, and the row is put into the index.
use mathlib.Core.Path.{ap, sym, ◌∙◌}
use native.Mathlib.Omega.{arith}
use lib.ListN.{length-set}
use Rattle.names.specs.Hash.{hash}
use Rattle.making.proofs.Keeping.{put-value, put-bounded, put-filed, keeps-more}
use Rattle.making.proofs.rules.keep.Goals as goal

pub bounds-rows-at-2 : goal.bounds-rows-at-2
bounds-rows-at-2 c = simp length-set (omega arith)

pub bounds-rows-at-3 : goal.bounds-rows-at-3
bounds-rows-at-3 c = simp length-set (omega arith)

pub insert-requires : goal.insert-requires
insert-requires c =
    let rows = c.args.rows.now in
    let buffer = c.args.buffer.now in
    let n = c.args.n in
    let first = c.args.first in
    let past = c.args.past in
    let long = c.requires.scratch_width_in_bounds.0 in
    let bounded = put-bounded rows n first past long buffer c.requires.first_le_past.0 c.requires.first_le_past.1 c.requires.bounded.0 in record { bounded = bounded; filed = put-filed rows n first past long buffer c.args.index.now c.requires.bounded.1; n_in_bounds = c.requires.scratch_width_in_bounds.1; n_bound = omega arith; hashed_value = c.requires.first_le_past.2 ∙ ap hash (sym (put-value rows n first past long buffer)) }

pub returns : goal.returns
returns c =
    let rows = c.args.rows.now in
    let buffer = c.args.buffer.now in
    let n = c.args.n in
    let first = c.args.first in
    let past = c.args.past in
    let long = c.requires.scratch_width_in_bounds.0 in
    let bounded = put-bounded rows n first past long buffer c.requires.first_le_past.0 c.requires.first_le_past.1 c.requires.bounded.0 in
    λ done entry keeps e f.
    keeps-more rows n first past long buffer c.args.index.now done keeps entry e f c.insert.new.index bounded
    c.insert.ensures.filed_2
