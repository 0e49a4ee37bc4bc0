-- `letters::content::content_of` meets its contract: the item that the element is holds it.
use mathlib.Core.Path.{sym, subst}
use Rattle.headers.specs.Head.{type_field}
use Rattle.elements.specs.declared.Slots.{Slots}
use Rattle.elements.specs.Shape.{shape_of}
use Rattle.elements.specs.WellMade.{WellMade}
use Rattle.elements.specs.Frames.{HoldingSlots}
use Rattle.elements.proofs.Made.{made}
use Rattle.elements.proofs.Slotting.{holding-shape}
use Rattle.letters.specs.Content.{HoldsElement}
use Rattle.letters.proofs.Fetching.{holds-element}
use Rattle.letters.proofs.content.content_of.Goals as goal

pub holder_in-requires : goal.holder_in-requires
holder_in-requires c =
    let item = c.element_at-item in
    let edition = c.args.edition in
    (item.ensures.fine, subst WellMade (sym c.shape_of.ensures) (made (shape_of edition (type_field item.result.code))))

pub returns : goal.returns
returns c =
    let item = c.element_at-item in
    let s = c.args.s.now in
    let inner = item.result.inner in
    let edition = c.args.edition in
    let type = type_field item.result.code in
    let by_slots = subst (λ (shape : Slots). HoldingSlots s shape inner c.holder_in.result) c.shape_of.ensures
    c.holder_in.ensures in
    let holding = holding-shape item.ensures.fine (shape_of edition type) by_slots in
    subst (HoldsElement edition s c.args.j) (sym c.held_by.ensures) (holds-element item.ensures holding)
