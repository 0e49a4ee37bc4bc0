-- `turns::count_in` meets its contract: by the kind of the row.
use mathlib.Core.Path.{sym, ◌∙◌}
use borrow.Author.Tests.{eq-eqb, ne_eqb}
use Rattle.order_a.specs.Turns.{counts_in}
use Rattle.letters.proofs.Telling.{rows_tell}
use Rattle.letters.proofs.Telling.{row_inside}
use Rattle.owners.proofs.Telling.{meetable}
use Rattle.order_a.proofs.turns.count_in.Goals as goal

pub kind_at-requires : goal.kind_at-requires
kind_at-requires c = row_inside c.requires.letter_rows.1 c.args.j c.requires.j_lt_n

pub portions_of-requires : goal.portions_of-requires
portions_of-requires c = record {
  scratch_width_in_bounds = row_inside c.requires.letter_rows.1 c.args.j c.requires.j_lt_n;
  meetable = meetable (rows_tell c.requires.letter_rows.1) c.args.j c.requires.j_lt_n;
}

pub returns-then-kind_at-kind : goal.returns-then-kind_at-kind
unfolding counts_in
returns-then-kind_at-kind c = rw (eq-eqb _ _ (sym c.kind_at.ensures ∙ c.if-kind_at-kind.true)) c.portions_of.ensures

pub returns-else-kind_at-kind : goal.returns-else-kind_at-kind
unfolding counts_in
returns-else-kind_at-kind c = rw (ne_eqb _ _ (λ e. c.if-kind_at-kind.false (c.kind_at.ensures ∙ e)))
