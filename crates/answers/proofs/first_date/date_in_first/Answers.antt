-- `answers::first_date::date_in_first` meets its contract: rules 10 and 11 by the element's type field, then what is found in its run.
use mathlib.Core.Path.{◌≡◌, ap, sym, ◌∙◌, subst}
use native.Mathlib.Omega.{arith}
use Rattle.elements.specs.declared.Slots.{Slots}
use Rattle.elements.proofs.Slotting.{octet-same}
use Rattle.judging.specs.Judges.{early_refusal, shape_by}
use Rattle.answers.specs.Dating.{FirstTells}
use Rattle.answers.proofs.Dating.{found-narrow}
use Rattle.answers.proofs.FirstDating.{early-small, first-refused, first-dated}
use Rattle.answers.proofs.first_date.date_in_first.Goals as goal
use Rattle.answers.proofs.first_date.date_in_first.Goals.{After-shape_of-shape}

-- rules 10 and 11, by the octet of the shape that was found
rules : (c : After-shape_of-shape) →
    let a = c.args in early_refusal 0 a.code c.shape_of-shape.result.octet ≡ early_refusal 0 a.code (shape_by a.edition a.code).octet
rules c =
    let a = c.args in
    ap (λ (x : Slots). early_refusal 0 a.code x.octet) c.shape_of-shape.ensures ∙ ap (early_refusal 0 a.code) (octet-same (shape_by a.edition a.code))

pub overflow_cast-number : goal.overflow_cast-number
overflow_cast-number c =
    let a = c.args in
    omega (arith, c.in-Err.ensures.refusal, early-small 0 a.code c.shape_of-shape.result.octet)

pub returns-in-Err : goal.returns-in-Err
returns-in-Err c =
    let a = c.args in
    subst (FirstTells a.edition a.stream.now) (sym c.refused_date.ensures)
    (first-refused a.edition a.stream.now c.requires.1 c.requires.0 _
    (c.in-Err.ensures.refusal ∙ rules (goal.at.returns-in-Err c).After-shape_of-shape) c.in-Err.ensures.there)

pub dated_as-requires : goal.dated_as-requires
dated_as-requires c = found-narrow _ c.date_in.ensures c.requires.1

pub returns-in-Ok : goal.returns-in-Ok
returns-in-Ok c =
    let a = c.args in
    let passed = sym (rules (goal.at.returns-in-Ok c).After-shape_of-shape) ∙ c.in-Ok.ensures in
    subst (FirstTells a.edition a.stream.now) (sym c.dated_as.ensures)
    (first-dated a.edition a.stream.now c.requires.1 c.requires.0 passed _ c.date_in.ensures)
