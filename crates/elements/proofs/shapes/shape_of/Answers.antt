-- `elements::shapes::shape_of` meets its contract: a case for each edition.
use mathlib.Core.Path.{sym, ap, ◌∙◌}
use Rattle.headers.specs.Head.{type_field}
use Rattle.elements.specs.declared.Edition.{Edition}
use Rattle.elements.specs.Shape.{shape_of}
use Rattle.elements.specs.Slots.{slots_of}
use Rattle.elements.proofs.shapes.shape_of.Goals as goal

pub returns-in-Of1988 : goal.returns-in-Of1988
unfolding shape_of
returns-in-Of1988 c =
    let code = c.args.code in
    c.shape_1988.ensures ∙ sym (ap (λ (edition : Edition). slots_of (shape_of edition (type_field code))) c.in-Of1988.is)

pub returns-in-Of1993 : goal.returns-in-Of1993
unfolding shape_of
returns-in-Of1993 c =
    let code = c.args.code in
    c.shape_1993.ensures ∙ sym (ap (λ (edition : Edition). slots_of (shape_of edition (type_field code))) c.in-Of1993.is)
