-- `judging::judge_any` meets its contract: the three steps of the rules, each by what its function ensures.
use mathlib.Core.Path.{◌≡◌, sym, ap, ◌∙◌, subst}
use mathlib.Core.List.{List}
use Prim.Native.Nat.{ℕ}
use native.Mathlib.Omega.{arith}
use lib.ListN.{length}
use Rattle.std.specs.Prelude.{Ok, Err, Result}
use Rattle.std.proofs.lemmas.Result.{err_from_is_err_and}
use Rattle.runs.specs.Runs.{tree_in}
use Rattle.elements.specs.declared.Row.{Row}
use Rattle.elements.specs.declared.Seen.{Seen}
use Rattle.elements.specs.declared.Slots.{Slots}
use Rattle.elements.specs.Judge.{Element, twice}
use Rattle.elements.specs.WellMade.{WellMade}
use Rattle.elements.specs.Sees.{SeesShape, SeesSlots}
use Rattle.elements.proofs.Made.{made}
use Rattle.elements.proofs.Slotting.{octet-same, sees-shape}
use Rattle.judging.specs.Done.{DoneRows}
use Rattle.judging.specs.Judges.{early_refusal, shape_by, element_by}
use Rattle.judging.proofs.Steps.{refused-early, refused-later, refused-last}
use Rattle.judging.proofs.judge_any.Goals as goal
use Rattle.judging.proofs.judge_any.Goals.{Start, After-early, After-see, In_ok-early, After-has_double}

-- the elements that are done, and their rows
abbrev Done : (c : Start) → List Row → List Element → Type 0
Done c table done =
    DoneRows c.args.s.now c.args.rows.now c.args.n table done

-- rules 9 to 11, by the shape that was looked up and by the elements that are done
early-is : (c : After-early) (table : List Row) (done : List Element)
    → Done (goal.at.After-early c).Start table done →
    let a = c.args in
    early_refusal a.n a.item.code c.shape_of-shape.result.octet ≡ early_refusal (length done) a.item.code (shape_by a.edition a.item.code).octet
early-is c table done holds =
    let a = c.args in
    ap (λ (x : Slots). early_refusal a.n a.item.code x.octet) c.shape_of-shape.ensures
    ∙ ap (early_refusal a.n a.item.code) (octet-same (shape_by a.edition a.item.code))
    ∙ ap (λ (n : ℕ). early_refusal n a.item.code (shape_by a.edition a.item.code).octet) (sym holds.counted)

early-passed : (c : In_ok-early) (table : List Row) (done : List Element)
    → Done (goal.at.In_ok-early c).Start table done →
    let a = c.args in
    early_refusal (length done) a.item.code (shape_by a.edition a.item.code).octet ≡ 0
early-passed c table done holds = sym (early-is (goal.at.In_ok-early c).After-early table done holds) ∙ c.in_ok-early.ensures

-- rules 12 to 14
seen-is : (c : After-see) (seen : Result Seen ℕ) → c.see.result ≡ seen →
    let a = c.args in
    SeesShape a.s.now (shape_by a.edition a.item.code) a.item.inner a.item.first a.item.past c.see.new.bounds seen
seen-is c seen e =
    let a = c.args in
    sees-shape c.requires.fine.0
    (shape_by a.edition a.item.code) a.item.first a.item.past c.see.new.bounds seen
    (subst (λ (x : Slots). SeesSlots a.s.now x a.item.inner a.item.first a.item.past c.see.new.bounds seen) c.shape_of-shape.ensures
    (subst (SeesSlots a.s.now c.shape_of-shape.result a.item.inner a.item.first a.item.past c.see.new.bounds) e c.see.ensures))

pub returns-in_err-early : goal.returns-in_err-early
returns-in_err-early c =
    let p = err_from_is_err_and c.from_residual.result c.from_residual.ensures.1 in
    rw (p.1, p.2) (λ table done holds.
    let a = c.args in
    let refused = c.in_err-early.ensures in (
      refused-early a.edition done a.item.code (tree_in a.s.now a.item.inner) _
          (refused.refusal ∙ early-is (goal.at.returns-in_err-early c).After-early table done holds) refused.there,
      refused.there,
    ))

pub see-requires : goal.see-requires
see-requires c = (
  c.requires.fine.0,
  subst WellMade (sym c.shape_of-shape.ensures) (made (shape_by c.args.edition c.args.item.code)),
  c.requires.fine.1,
  c.requires.fine.2,
  c.requires.fine.3,
  c.requires.fine.4,
)

pub returns-in_err-seen : goal.returns-in_err-seen
returns-in_err-seen c =
    let p = err_from_is_err_and c.from_residual-in_err-seen.result c.from_residual-in_err-seen.ensures.1 in
    rw (p.1, p.2) (λ table done holds.
    let a = c.args in
    let refused = seen-is (goal.at.returns-in_err-seen c).After-see (Err _) c.in_err-seen.was in (
      refused-later a.edition done a.item.code (tree_in a.s.now a.item.inner)
          (early-passed (goal.at.returns-in_err-seen c).In_ok-early table done holds) _ refused.refusal refused.there,
      refused.there,
    ))

-- rule 15
double-is : (c : After-has_double) (table : List Row) (done : List Element)
    → Done (goal.at.After-has_double c).Start table done →
    let a = c.args in
    c.has_double.result ≡ twice done (element_by a.edition a.item.code (tree_in a.s.now a.item.inner))
double-is c table done holds =
    let passes = (seen-is (goal.at.After-has_double c).After-see (Ok _) c.in_ok-seen.was).passes in
    c.has_double.ensures table done _ holds passes.says passes.stored

pub has_double-requires : goal.has_double-requires
has_double-requires c =
    let seen = seen-is (goal.at.has_double-requires c).After-see (Ok _) c.in_ok-seen.was in
    record {
      done_rows = c.requires.done_rows;
      both_filed = c.requires.both_filed;
      row_placed = (seen.placed, c.hashes_of-hashes.ensures);
      count_in_bounds = (omega (arith, seen.passes.few, c.see.auto.bounds, c.requires.fine), seen.passes.inside);
    }

pub returns-then-has_double : goal.returns-then-has_double
returns-then-has_double c =
    λ table done holds.
    let a = c.args in
    let seen = seen-is (goal.at.returns-then-has_double c).After-see (Ok _) c.in_ok-seen.was in (
      refused-last a.edition done a.item.code (tree_in a.s.now a.item.inner)
          (early-passed (goal.at.returns-then-has_double c).In_ok-early table done holds) seen.unrefused _
          (sym (double-is (goal.at.returns-then-has_double c).After-has_double table done holds) ∙ c.if-has_double.true),
      λ e. absurd (omega arith),
    )

pub returns : goal.returns
returns c =
    λ table done holds.
    let a = c.args in
    let seen = seen-is (goal.at.returns c).After-see (Ok _) c.in_ok-seen.was in
    record {
      unrefused =
          refused-last a.edition done a.item.code (tree_in a.s.now a.item.inner)
          (early-passed (goal.at.returns c).In_ok-early table done holds) seen.unrefused _
          (sym (double-is (goal.at.returns c).After-has_double table done holds) ∙ c.if-has_double.false);
      row_is = seen.passes.row;
      says = seen.passes.says;
      placed = seen.placed;
      hashed = c.hashes_of-hashes.ensures;
    }
