-- `elements::frames::frame_in_order` meets its contract: all is found in the opening, whose run has no more items if they stand in order.
use mathlib.Core.Path.{sym, ◌∙◌}
use Rattle.elements.proofs.Framing.{ordered-frame}
use Rattle.elements.proofs.frames.frame_in_order.Goals as goal

pub returns-then-not-stands : goal.returns-then-not-stands
returns-then-not-stands c = sym (c.stands.ensures c.args.s.now c.args.r c.opening_of-o.ensures) ∙ c.if-not-stands.true

pub returns : goal.returns
returns c =
    let s = c.args.s.now in
    let shape = c.args.shape in
    let r = c.args.r in
    let opens = c.opening_of-o.ensures in
    ordered-frame s shape r c.requires.0 c.requires.1 c.requires.2 c.opening_of-o.result opens
    (sym (c.stands.ensures s r opens) ∙ c.if-not-stands.false)
    c.body_with.result (c.body_with.ensures s r opens)
    c.bounds_of.result (λ few. c.bounds_of.ensures s r shape.object (c.part_with.ensures s r opens few))
    c.holder_with.result (c.holder_with.ensures s r opens)
