-- `answers::children::children_judged` meets its contract: what the judge left says what the letter is, and the filled table who the children are.
use mathlib.Core.Path.{refl, ap, ◌∙◌}
use Prim.Native.Nat.{ℕ, ◌<◌}
use native.Mathlib.Omega.{arith}
use mathlib.Core.List.{List, ◌++◌}
use lib.ListN.{length, drop}
use Rattle.parents.specs.Parent.{no_parent}
use Rattle.parents.proofs.Children.{children-few}
use Rattle.answers.proofs.Judging.{accepted-judged}
use Rattle.answers.proofs.Tabling.{table_filled, finished-children}
use Rattle.answers.proofs.Relating.{relates-16, relates-20, relates-25, relates-letter, renamed}
use Rattle.answers.proofs.children.children_judged.Goals as goal

pub returns-then-table-count : goal.returns-then-table-count
returns-then-table-count c =
    let l = accepted-judged c.requires.accepts.ended c.requires.letter_rows in
    renamed c.refuse.ensures refl refl (relates-16 c.args.edition c.args.stream.now c.args.table.now c.args.row
    c.args.room c.args.list.now _ _ l.held.elements l.judged l.held.holds.counted (omega arith))

pub returns-then-count-row : goal.returns-then-count-row
returns-then-count-row c =
    let l = accepted-judged c.requires.accepts.ended c.requires.letter_rows in
    renamed c.refuse-then-count-row.ensures refl refl (relates-20 c.args.edition c.args.stream.now c.args.table.now c.args.row
    c.args.room c.args.list.now _ _ l.held.elements l.judged l.held.holds.counted (omega arith) c.if-count-row.true)

pub fill-requires : goal.fill-requires
fill-requires c =
    let l = accepted-judged c.requires.accepts.ended c.requires.letter_rows in
    record { letter_rows = (c.args.edition, c.requires.letter_rows); filed = c.requires.filed; count_le_most_elements = (l.few, omega arith) }

pub count_children-found-requires : goal.count_children-found-requires
count_children-found-requires c =
    let l = accepted-judged c.requires.accepts.ended c.requires.letter_rows in
    (l.few, omega (arith, c.fill.auto.table))

pub refuse-requires-then-room-found : goal.refuse-requires-then-room-found
refuse-requires-then-room-found c =
    let l = accepted-judged c.requires.accepts.ended c.requires.letter_rows in
    l.few

pub returns-then-room-found : goal.returns-then-room-found
returns-then-room-found c =
    let l = accepted-judged c.requires.accepts.ended c.requires.letter_rows in
    let below : c.args.row < c.args.count = omega (arith, c.if-count-row.false) in
    let low : c.args.row < no_parent = omega (arith, l.few) in
    let fills = c.fill.ensures in
    let kids = finished-children l.held c.args.table.now _ fills c.args.row low in
    let found = c.count_children-found.ensures ∙ ap length kids in
    renamed c.refuse-then-room-found.ensures (table_filled l.held l.judged c.args.table.now _ fills) refl
    (relates-25 c.args.edition c.args.stream.now c.args.table.now c.args.row c.args.room c.args.list.now _ _
    l.held.elements l.judged l.held.holds.counted (omega arith) below _ found c.if-room-found.true)

pub put_children-requires : goal.put_children-requires
put_children-requires c =
    let l = accepted-judged c.requires.accepts.ended c.requires.letter_rows in
    let counted = c.count_children-found.ensures in record {
      count_le_most_elements = (l.few, omega (arith, c.fill.auto.table));
      count_in_bounds = omega (arith, counted, c.if-room-found.false, c.requires.room_in_bounds);
    }

pub overflow_cast-result : goal.overflow_cast-result
overflow_cast-result c =
    let l = accepted-judged c.requires.accepts.ended c.requires.letter_rows in
    omega (arith, l.few)

pub overflow_cast-result-2 : goal.overflow_cast-result-2
overflow_cast-result-2 c =
    let l = accepted-judged c.requires.accepts.ended c.requires.letter_rows in
    let low : c.args.row < no_parent = omega (
      arith,
      l.few,
      c.if-count-row.false,
    ) in
    let kids = finished-children l.held c.args.table.now _
    c.fill.ensures c.args.row low in
    let found = c.count_children-found.ensures ∙ ap length kids in
    omega (arith, l.few, l.held.holds.counted, found, children-few l.held.elements c.args.row)

pub returns : goal.returns
returns c =
    let l = accepted-judged c.requires.accepts.ended c.requires.letter_rows in
    let below : c.args.row < c.args.count = omega (
      arith,
      c.if-count-row.false,
    ) in
    let low : c.args.row < no_parent = omega (arith, l.few) in
    let fills = c.fill.ensures in
    let kids = finished-children l.held c.args.table.now _ fills c.args.row low in
    let found = c.count_children-found.ensures ∙ ap length kids in
    let put = c.put_children.ensures ∙ ap (λ (l : List ℕ). l ++ drop (length l) c.args.list.now) kids in
    renamed refl (table_filled l.held l.judged c.args.table.now _ fills) put
    (relates-letter c.args.edition c.args.stream.now c.args.table.now c.args.row c.args.room c.args.list.now _ _
    l.held.elements l.judged l.held.holds.counted (omega arith) below _ found (omega (arith, c.if-room-found.false)))
