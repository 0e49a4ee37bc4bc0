-- `answers::tell_refused` meets its contract: number and place of each question, and the headers of the check.
use mathlib.Core.Path.{sym, ◌∙◌, ap}
use Rattle.answers.specs.Questions.{check_told}
use Rattle.answers.proofs.Working.{refused_as, refused-other}
use Rattle.answers.proofs.tell_refused.Goals as goal

pub returns-in-Check : goal.returns-in-Check
returns-in-Check c = refused_as _ _ _ c.in-Check.is (c.tell_checked.ensures ∙ ap check_told c.refused_check.ensures)

pub returns-in_default : goal.returns-in_default
returns-in_default c = c.tell.ensures ∙ sym (refused-other _ c.in_default.not-Check _ _ _)
