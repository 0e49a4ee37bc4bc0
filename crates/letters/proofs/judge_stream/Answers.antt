-- `letters::judge_stream` meets its contract: the judge stands between two elements at each turn, and all that is lent keeps its
-- length.
use mathlib.Core.Path.{◌≡◌, refl, sym, subst}
use native.Mathlib.Omega.{arith}
use borrow.Author.Rules.{rules}
use Prim.Native.Nat.{ℕ}
use Rattle.runs.specs.Runs.{Meeting}
use Rattle.judging.specs.declared.PlacedItem.{PlacedItem}
use Rattle.std.specs.Prelude.{Result}
use Rattle.judging.specs.declared.Judged.{Judged}
use Rattle.judging.specs.Judges.{Judges, Passing}
use Rattle.rows.proofs.Halves.{links-enough, fewer-links}
use Rattle.letters.proofs.State.{Judging, judging-none, end-gives, refused-at, few, needed, judging-more}
use Rattle.letters.proofs.judge_stream.Goals as goal
use Rattle.letters.proofs.judge_stream.Goals.{In-Some, After-judge_element, In-Ok}

-- an element is met
meeting : (c : In-Some) →
    Meeting c.args.s.now
    c.loop-item.cur c.in-Some.item.code c.in-Some.item.first c.in-Some.item.past c.in-Some.item.inner c.in-Some.item.rest
meeting c = c.in-Some.ensures

abbrev item : (c : In-Some) → PlacedItem
item c =
    record { code = c.in-Some.item.code; first = c.loop-item.cur.at; past = c.in-Some.item.rest.at; inner = c.in-Some.item.inner }

-- and judged
judged : (c : After-judge_element) (y : Result Judged ℕ) → c.judge_element.result ≡ y
    → Judges c.args.edition c.args.s.now c.loop-item.invariant.0.done (item (goal.at.After-judge_element c).In-Some) y
judged c y e =
    let state = c.loop-item.invariant.0 in
    subst (Judges c.args.edition c.args.s.now state.done (item (goal.at.After-judge_element c).In-Some)) e (c.judge_element.ensures state.table state.done state.holds)

-- and passed
passing : (c : In-Ok) →
    Passing c.args.edition c.args.s.now c.loop-item.invariant.0.done (item (goal.at.In-Ok c).In-Some) c.in-Ok.judged.row c.in-Ok.judged.hashes
passing c = judged (goal.at.In-Ok c).After-judge_element _ c.in-Ok.is

pub loop-item-init : goal.loop-item-init
loop-item-init c =
    let a = c.args in (
      subst (Judging a.edition a.s.now a.rows.now a.index.now 0) (sym c.whole_stream-cur.ensures)
          (judging-none a.edition a.s.now a.rows.now a.index.now a.bounds.now c.requires.lent c.requires.fine.0),
      refl,
      refl,
      refl,
    )

pub meet-requires : goal.meet-requires
meet-requires c = c.loop-item.invariant.0.fine

pub returns : goal.returns
returns c =
    rw c.at_end.ensures (end-gives c.loop-item.invariant.0 c.in_default.ensures)

pub judge_element-requires : goal.judge_element-requires
judge_element-requires c =
    let l = c.loop-item in
    let m = meeting (goal.at.judge_element-requires c).In-Some in record {
      done_rows = (l.invariant.0.table, l.invariant.0.done, l.invariant.0.holds);
      both_filed = l.invariant.0.filed;
      fine = (
        m.inner_fine,
        c.requires.fine.1,
        omega (arith, m.starts, m.value_order, m.value_before),
        omega (arith, m.rest_fine.order, m.rest_fine.inside),
        omega (arith, c.requires.lent.portions, l.invariant.3),
      );
    }

pub returns-in-Err : goal.returns-in-Err
returns-in-Err c =
    let l = c.loop-item in
    refused-at l.invariant.0 (meeting (goal.at.returns-in-Err c).In-Some) _
    (judged (goal.at.returns-in-Err c).After-judge_element _ c.in-Err.is)

pub add_row-requires : goal.add_row-requires
add_row-requires c =
    let here = (goal.at.add_row-requires c).In-Some in
    let l = c.loop-item in
    let w = passing (goal.at.add_row-requires c).In-Ok in
    let some = needed l.invariant.0 (meeting here) w in
    record {
      done_rows = (l.invariant.0.table, l.invariant.0.done, l.invariant.0.holds);
      both_filed = l.invariant.0.filed;
      row_placed = (w.placed, w.hashed, c.requires.fine.1);
      scratch_width_in_bounds = (
        omega (arith, some, c.requires.lent.rows, l.invariant.1),
        links-enough c.args.index.now _ l.invariant.2 (fewer-links (omega (arith, some)) c.requires.lent.links),
        few l.invariant.0 (meeting here) w,
      );
    }

pub overflow_add-n : goal.overflow_add-n
overflow_add-n c = omega (
  arith,
  few c.loop-item.invariant.0 (meeting (goal.at.overflow_add-n c).In-Some) (passing (goal.at.overflow_add-n c).In-Ok),
)

pub loop-item-smaller : goal.loop-item-smaller
loop-item-smaller c = (meeting (goal.at.loop-item-smaller c).In-Some).less

pub loop-item-preserved : goal.loop-item-preserved
loop-item-preserved c =
    let l = c.loop-item in
    let w = passing (goal.at.loop-item-preserved c).In-Ok in (
      judging-more l.invariant.0 (meeting (goal.at.loop-item-preserved c).In-Some) w (c.add_row.ensures.grows l.invariant.0.table l.invariant.0.done _ l.invariant.0.holds w.says) c.add_row.ensures.both_filed_2,
      search rules,
      search rules,
      search rules,
    )
