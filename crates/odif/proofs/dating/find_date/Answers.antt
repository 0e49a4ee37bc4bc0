-- `odif::dating::find_date` meets its contract: what is refused by rules 1 to 15 is refused, and of a letter the date in its profile is given.
use mathlib.Core.Path.{◌≡◌, ap, sym, ◌∙◌, subst}
use Rattle.runs.proofs.Laws.{stream-fine, stream-within}
use Rattle.answers.specs.declared.Reason.{Reason}
use Rattle.answers.specs.Answers.{ruled}
use Rattle.answers.specs.Dating.{DateTells}
use Rattle.letters.proofs.Letters.{letter-found}
use Rattle.answers.proofs.Dating.{date-refused}
use Rattle.answers.proofs.Working.{is_letter}
use Rattle.odif.proofs.dating.find_date.Goals as goal

pub returns-in-Err : goal.returns-in-Err
returns-in-Err c =
    let a = c.args in
    let s = a.stream.now in
    let why = c.in-Err.why in
    let (is, number) = c.in-Err.ensures in
    let some : ((ruled a.edition s).number ≡ 0 → ⊥) = λ z. number (ap (λ (x : Reason). x.number) is ∙ z) in
    subst (DateTells a.edition s) (sym c.refused_date.ensures)
    (date-refused a.edition s some why.number why.place (sym is))

pub date_of_letter-requires : goal.date_of_letter-requires
date_of_letter-requires c =
    let a = c.args in
    let s = a.stream.now in
    let p = is_letter a.edition s c.in_default.ensures in
    let f = letter-found a.edition s p.headers p.elements p.judged in
    (stream-fine s f.at p.headers f.walked, stream-within s f.at p.headers f.walked)

pub returns : goal.returns
returns c = c.date_of_letter.ensures c.args.edition c.in_default.ensures
