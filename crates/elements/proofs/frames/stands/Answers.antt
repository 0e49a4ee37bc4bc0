-- `elements::frames::stands` meets its contract: the second slots are tried in order.
use mathlib.Core.Path.{◌≡◌, sym, ◌∙◌}
use mathlib.Core.Bool.{true, false}
use Rattle.runs.specs.Runs.{tree_in}
use Rattle.contents.specs.Search.{in_order}
use Rattle.elements.specs.Slots.{slot_ordered}
use Rattle.elements.proofs.frames.stands.Goals as goal

pub returns-then-fills : goal.returns-then-fills
unfolding slot_ordered
returns-then-fills c =
    let shape = c.args.shape in
    λ s r opens.
    let first : in_order shape.one shape.two (tree_in s r) ≡ true = sym (c.fills.ensures s r opens) ∙ c.if-fills.true in
    rw (c.requires, first)

pub returns-then-fills-2 : goal.returns-then-fills-2
unfolding slot_ordered
returns-then-fills-2 c =
    let shape = c.args.shape in
    λ s r opens.
    let first : in_order shape.one shape.two (tree_in s r) ≡ false = sym (c.fills.ensures s r opens) ∙ c.if-fills.false in
    let second : in_order shape.one shape.instead (tree_in s r) ≡ true = sym (c.fills-2.ensures s r opens) ∙ c.if-fills-2.true in
    rw (c.requires, first, second)

pub returns : goal.returns
unfolding slot_ordered
returns c =
    let shape = c.args.shape in
    λ s r opens.
    let first : in_order shape.one shape.two (tree_in s r) ≡ false = sym (c.fills.ensures s r opens) ∙ c.if-fills.false in
    let second : in_order shape.one shape.instead (tree_in s r) ≡ false = sym (c.fills-2.ensures s r opens) ∙ c.if-fills-2.false in
    rw (c.requires, first, second) (c.fills-3.ensures s r opens)
