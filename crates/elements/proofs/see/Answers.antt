-- `elements::see` meets its contract: items that do not stand in order, and another item among the pieces of the content or of a seal, are
-- refused by 12, and what the others hold is looked into.
use mathlib.Core.Path.{sym, ◌∙◌}
use Rattle.runs.specs.Runs.{tree_in}
use Rattle.elements.specs.Slots.{slot_content}
use Rattle.elements.proofs.Seeing.{sees-unordered, sees-others, sees-seal}
use Rattle.elements.proofs.see.Goals as goal

pub returns-in_default : goal.returns-in_default
returns-in_default c = let a = c.args in sees-unordered a.s.now a.shape a.r a.first a.past a.bounds.now c.in_default.ensures

pub pieces_alone-requires : goal.pieces_alone-requires
pieces_alone-requires c = c.in-Some.ensures.content.fine

pub returns-then-not-pieces_alone : goal.returns-then-not-pieces_alone
returns-then-not-pieces_alone c =
    let a = c.args in
    let alone = c.pieces_alone in
    let others =
    sym (alone.ensures (slot_content a.shape (tree_in a.s.now a.r)) c.in-Some.ensures.content.held)
    ∙ c.if-not-pieces_alone.true in
    sees-others a.s.now a.shape a.r a.first a.past a.bounds.now others

pub returns-then-not-seal_alone : goal.returns-then-not-seal_alone
returns-then-not-seal_alone c =
    let a = c.args in
    let seal = c.seal_alone in
    let others = sym seal.ensures ∙ c.if-not-seal_alone.true in
    sees-seal a.s.now a.shape a.r a.first a.past a.bounds.now others

pub see_body-requires : goal.see_body-requires
see_body-requires c =
    let top = c.in-Some.ensures in (
      record {
        made = c.requires.1;
        small = c.requires.2;
        fine = top.fine;
        object = top.object.placed;
        content = top.content.placed;
        whole_placed = record { order = c.requires.3; inside = c.requires.4 };
      },
      c.requires.5,
    )

pub returns : goal.returns
returns c =
    let seal = c.seal_alone in
    let a = c.args in
    let top = c.in-Some.ensures in
    let alone = c.pieces_alone in
    c.see_body.ensures a.r top
    (sym (alone.ensures (slot_content a.shape (tree_in a.s.now a.r)) top.content.held) ∙ c.if-not-pieces_alone.false)
    (sym seal.ensures ∙ c.if-not-seal_alone.false)
