-- `portions::tag_of` meets its contract: the tag so far, after what is left, is the tag of the whole.
use mathlib.Core.Path.{refl, sym, ap, ◌∙◌}
use native.Mathlib.Omega.{arith}
use Rattle.std.proofs.lemmas.Slice.{between_is}
use Rattle.portions.specs.Tags.{tag}
use Rattle.portions.proofs.Tags.{tag-more, tag-end}
use Rattle.portions.proofs.tag_of.Goals as goal

pub loop-digit-init : goal.loop-digit-init
loop-digit-init c = (omega arith, refl)

pub loop-digit-preserved : goal.loop-digit-preserved
loop-digit-preserved c = (omega arith, c.loop-digit.invariant.1 ∙ tag-more _ c.loop-digit.digit-index c.loop-digit.r c.loop-digit-test.true)

pub returns : goal.returns
returns c =
    let a = c.args in
    let l = c.loop-digit in
    (sym (ap tag (sym (between_is a.s.now a.v.first a.v.past)) ∙ l.invariant.1 ∙ tag-end _ l.digit-index l.r c.loop-digit-test.false), l.invariant.0)
