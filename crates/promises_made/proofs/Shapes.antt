-- Both editions take the profile, the block and the text unit that are made: computed from their shapes, but for the spelling. The one
-- file that looks at shapes.
use mathlib.Core.Path.{refl}
use Rattle.contents.specs.Search.{amount, first_value, first_run, in_order}
use Rattle.pieces.specs.Pieces.{only_pieces}
use Rattle.portions.specs.Portions.{all_portions, values, well_spelt}
use Rattle.elements.specs.Shape.{shape_of}
use Rattle.elements.specs.declared.Edition.{Edition}
use Rattle.elements.specs.declared.Edition.TheVariants.{Of1988, Of1993}
use Rattle.elements.specs.Judge.{body_of, content_of, element_of, items_in_order, as_tabled, names_fit}
use Rattle.elements.specs.ShapeRefusal.{shape_refusal}
use Rattle.promises_made.specs.Editions.{TakesAll}

pub takes-1988 : TakesAll Of1988
unfolding amount first_value first_run in_order only_pieces all_portions values well_spelt shape_of body_of content_of element_of items_in_order as_tabled names_fit shape_refusal
takes-1988 = record {
  profile = record { known = refl; passes = refl; says = refl };
  block = λ said spelt. record { known = refl; passes = rw (spelt.identifier, spelt.portion); says = refl };
  unit = λ said spelt. record { known = refl; passes = rw spelt.unit; says = refl };
}

pub takes-1993 : TakesAll Of1993
unfolding amount first_value first_run in_order only_pieces all_portions values well_spelt shape_of body_of content_of element_of items_in_order as_tabled names_fit shape_refusal
takes-1993 = record {
  profile = record { known = refl; passes = refl; says = refl };
  block = λ said spelt. record { known = refl; passes = rw (spelt.identifier, spelt.portion); says = refl };
  unit = λ said spelt. record { known = refl; passes = rw spelt.unit; says = refl };
}

-- whichever the edition
pub takes : (edition : Edition) → TakesAll edition
takes Of1988 = takes-1988
takes Of1993 = takes-1993
