-- `characters::steps::step_at` meets its contract: a run, or else the sign.
use mathlib.Core.Path.{◌≡◌, ap, ◌∙◌}
use Rattle.characters.specs.Sets.{number_of}
use Rattle.characters.specs.Steps.{step, of_sign}
use Rattle.characters.proofs.Going.{run_step, sign-step}
use Rattle.characters.proofs.steps.step_at.Goals as goal

pub returns-then-at-end : goal.returns-then-at-end
returns-then-at-end c =
    let a = c.args in
    run_step (number_of a.set) a.octets.now a.at _ c.plain_end-end.ensures c.if-at-end.true

pub returns : goal.returns
returns c =
    let a = c.args in
    let sign = c.sign_at-sign in
    let told : step sign.result.wide c.width.result c.number.result ≡ of_sign sign.result =
    rw (c.width.ensures, c.number.ensures.0) in
    told
    ∙ (ap of_sign sign.ensures
    ∙ sign-step (number_of a.set) a.octets.now a.at _ c.plain_end-end.ensures c.if-at-end.false)
