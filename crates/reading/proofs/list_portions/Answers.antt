-- `reading::list_portions` meets its contract: each portion that is met yields its match, if there is one. The measure is what is left of
-- the run.
use native.Mathlib.Omega.{arith}
use mathlib.Core.List.{◌∷◌, ◌++◌}
use lib.Seq.{slice}
use Rattle.letters.proofs.Telling.{rows_tell}
use Rattle.reading.proofs.Scratch.{bounded-on}
use Rattle.laws.proofs.Parts.{part-slice}
use Rattle.reading.proofs.Listing.{listing-all, listing_none, listing-more, room-for-one, small-element, small-place, found-small}
use Rattle.names.specs.Names.{space_byte}
use Rattle.rows.specs.Columns.{identifier_column, value_at}
use Rattle.rows.specs.Chains.{FindsRow}
use Rattle.reading.specs.Ready.{column_of, unit_space}
use Rattle.reading.proofs.list_portions.Goals as goal
use Rattle.reading.proofs.list_portions.Goals.{After-unit_of-found}

-- what is found for the portion that is met
finds : (c : After-unit_of-found) →
    let a = c.args in
    FindsRow a.s.now a.rows.now (column_of a.side) a.n unit_space
    (value_at a.s.now a.rows.now identifier_column a.element ++ space_byte ∷ slice c.in-Some.item.first c.in-Some.item.past a.s.now) c.unit_of-found.result
finds c =
    let part = part-slice c.in-Some.item.first c.in-Some.item.past c.args.s.now c.in-Some.ensures.value_order in
    rw (c.column_of-column.ensures, c.value_at-name.ensures, part) at c.unit_of-found.ensures

pub value_at-name-requires : goal.value_at-name-requires
value_at-name-requires c =
    let bounded = c.requires.letter_rows.1.holds.identifiers in
    let below = c.requires.element_lt_n.0 in
    record {
      column_bound = omega arith;
      scratch_width_in_bounds = omega (arith, below, bounded.in_table);
      j_bound = bounded.ordered c.args.element below;
      j_in_bounds = bounded.inside c.args.element below;
    }

pub portions_at-left-requires : goal.portions_at-left-requires
portions_at-left-requires c =
    omega (arith, c.requires.element_lt_n.0, c.requires.letter_rows.1.holds.identifiers.in_table)

pub loop-item-init : goal.loop-item-init
loop-item-init c =
    rw c.portions_at-left.ensures (listing-all (rows_tell c.requires.letter_rows.1) c.requires.element_lt_n.0 c.requires.element_lt_n.1
    c.args.flat.now c.args.count c.requires.room)

pub meet-requires : goal.meet-requires
meet-requires c = c.loop-item.invariant.fine

pub returns : goal.returns
returns c =
    listing_none (rows_tell c.requires.letter_rows.1) c.requires.element_lt_n.0 c.requires.element_lt_n.1 c.loop-item.invariant c.in_default.ensures

pub unit_of-found-requires : goal.unit_of-found-requires
unit_of-found-requires c =
    let spaced = c.hash_space-hashed.ensures in
    record {
      bounded = rw c.column_of-column.ensures (bounded-on c.requires.letter_rows.1 c.args.side);
      filed = rw c.column_of-column.ensures c.requires.filed;
      hashed_value = (rw (← c.hash_over.ensures.0) spaced.0, spaced.1);
    }

pub put_found-total-requires : goal.put_found-total-requires
put_found-total-requires c =
    let known = rows_tell c.requires.letter_rows.1 in
    let met = c.in-Some.ensures in
    let found = c.unit_of-found.result in
    let one = finds (goal.at.put_found-total-requires c).After-unit_of-found in record {
      found_in_bounds = room-for-one known c.requires.element_lt_n.0 c.requires.element_lt_n.1 c.loop-item.invariant met found one;
      element_bound = (
        small-element known c.requires.element_lt_n.0 c.requires.element_lt_n.1 c.loop-item.invariant met found one,
        omega (arith, small-place known c.requires.element_lt_n.0 c.requires.element_lt_n.1 c.loop-item.invariant met found one),
        found-small known c.requires.element_lt_n.0 c.requires.element_lt_n.1 c.loop-item.invariant met found one,
      );
    }

pub overflow_add-place : goal.overflow_add-place
overflow_add-place c =
    omega (
      arith,
      small-place (rows_tell c.requires.letter_rows.1) c.requires.element_lt_n.0 c.requires.element_lt_n.1 c.loop-item.invariant c.in-Some.ensures
          c.unit_of-found.result (finds (goal.at.overflow_add-place c).After-unit_of-found),
    )

pub loop-item-smaller : goal.loop-item-smaller
loop-item-smaller c = c.in-Some.ensures.less

pub loop-item-preserved : goal.loop-item-preserved
loop-item-preserved c =
    listing-more (rows_tell c.requires.letter_rows.1) c.requires.element_lt_n.0 c.requires.element_lt_n.1 c.loop-item.invariant c.in-Some.ensures
    c.unit_of-found.result (finds (goal.at.loop-item-preserved c).After-unit_of-found) c.put_found-total.ensures
