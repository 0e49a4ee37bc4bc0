-- `elements::frames::body_with` meets its contract: by whether the items are looked at.
use borrow.Author.Tests.{not-true, not-false}
use Rattle.elements.proofs.Framing.{unnamed, named-within}
use Rattle.elements.proofs.frames.body_with.Goals as goal

pub returns-then-not-shape : goal.returns-then-not-shape
returns-then-not-shape c =
    let shape = c.args.shape in
    λ s r opens few. rw c.no_run.ensures (unnamed s shape r (not-true shape.looked c.if-not-shape.true))

pub returns : goal.returns
returns c =
    let shape = c.args.shape in
    let looked = not-false shape.looked c.if-not-shape.false in
    λ s r opens few.
    named-within s shape r c.requires.0 c.requires.1 looked (c.run_with.ensures s r opens few (c.requires.0.within c.requires.1 looked))
