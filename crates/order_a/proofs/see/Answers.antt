-- `order_a::see` meets its contract: number by number.
use Rattle.order_a.specs.Pass.{sight_for}
use Rattle.letters.proofs.Telling.{rows_tell}
use Rattle.letters.proofs.Telling.{row_inside}
use Rattle.owners.proofs.Telling.{meetable}
use Rattle.order_a.proofs.see.Goals as goal

pub kind_at-kind-requires : goal.kind_at-kind-requires
kind_at-kind-requires c = row_inside c.requires.0.1 c.args.k c.requires.1

pub is_named-named-requires : goal.is_named-named-requires
is_named-named-requires c = row_inside c.requires.0.1 c.args.k c.requires.1

pub portions_of-lists-requires : goal.portions_of-lists-requires
portions_of-lists-requires c = record {
  scratch_width_in_bounds = row_inside c.requires.0.1 c.args.k c.requires.1;
  meetable = meetable (rows_tell c.requires.0.1) c.args.k c.requires.1;
}

pub returns : goal.returns
unfolding sight_for
returns c = rw (
  c.has_turn-turn.ensures,
  c.own_for-own.ensures,
  c.kind_for-by.ensures,
  c.kind_at-kind.ensures,
  c.is_named-named.ensures,
  c.portions_of-lists.ensures,
  c.count_kinds-generic.ensures,
  c.count_kinds-specific.ensures,
)
