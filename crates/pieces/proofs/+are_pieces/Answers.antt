-- `pieces::are_pieces` meets its contract. The loop's invariant: the run is of pieces only exactly when what is left of it is. The
-- function ends, for each call has fewer levels left.
use mathlib.Core.Path.{sym, ◌∙◌}
use mathlib.Core.Bool.{true, false}
use Prim.Native.Nat.{ℕ}
use native.Mathlib.Omega.{arith}
use Rattle.runs.specs.Runs.{Meeting}
use Rattle.pieces.proofs.Levels.{level-less}
use Rattle.pieces.proofs.Only.{only_none, only-piece, only-pieces, only-other}
use Rattle.pieces.proofs.+are_pieces.Goals as goal
use Rattle.pieces.proofs.+are_pieces.Goals.{In-Some}

-- the item that is met
meeting : (t : ℕ) (c : In-Some t) →
    Meeting c.args.s.now c.loop-item.cur c.in-Some.item.code c.in-Some.item.first c.in-Some.item.past c.in-Some.item.inner c.in-Some.item.rest
meeting t c = c.in-Some.ensures

pub returns : goal.returns
returns t c =
    let a = c.args in
    let l = c.loop-item in
    only_none a.piece a.pieces a.s.now l.cur
    (c.in_default.ensures) ∙ sym l.invariant.2

pub are_pieces-requires : goal.are_pieces-requires
are_pieces-requires t c =
    let m = meeting t (goal.at.are_pieces-requires t c).In-Some in
    (omega (arith, level-less m), (m.inner_fine, c.requires.1, c.requires.2))

pub returns-then-not-are_pieces : goal.returns-then-not-are_pieces
returns-then-not-are_pieces t c =
    let no = sym c.are_pieces.ensures ∙ c.if-not-are_pieces.true in
    let m = meeting t (goal.at.returns-then-not-are_pieces t c).In-Some in
    let e = only-pieces c.args.piece c.args.pieces m c.requires.2 c.if-item-pieces.true false no in
    sym (c.loop-item.invariant.2 ∙ e)

pub loop-item-preserved-else-not-are_pieces : goal.loop-item-preserved-else-not-are_pieces
loop-item-preserved-else-not-are_pieces t c =
    let m = meeting t (goal.at.loop-item-preserved-else-not-are_pieces t c).In-Some in
    let l = c.loop-item in
    let yes = sym c.are_pieces.ensures ∙ c.if-not-are_pieces.false in
    let e = only-pieces c.args.piece c.args.pieces m c.requires.2 c.if-item-pieces.true true yes in
    (m.rest_fine, m.rest_room ∙ l.invariant.1, l.invariant.2 ∙ e)

pub returns-then-item-piece : goal.returns-then-item-piece
returns-then-item-piece t c =
    let a = c.args in
    let e = only-other a.piece a.pieces (meeting t (goal.at.returns-then-item-piece t c).In-Some) c.if-item-piece.true c.if-item-pieces.false in
    sym (c.loop-item.invariant.2 ∙ e)

pub loop-item-preserved : goal.loop-item-preserved
loop-item-preserved t c =
    let m = meeting t (goal.at.loop-item-preserved t c).In-Some in
    let l = c.loop-item in
    let e = only-piece c.args.piece c.args.pieces m c.requires.1 c.if-item-piece.false in
    (m.rest_fine, m.rest_room ∙ l.invariant.1, l.invariant.2 ∙ e)
