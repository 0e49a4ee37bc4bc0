-- `answers::date::date_of_letter` meets its contract: the first element that is met is the profile, and the date in its run is the letter's.
use mathlib.Core.Path.{sym, subst}
use Rattle.runs.specs.declared.Run.{Run}
use Rattle.runs.specs.Runs.{whole_stream, Fine, Meets, Meeting}
use Rattle.contents.proofs.Firsts.{met}
use Rattle.answers.specs.Dating.{DateTells}
use Rattle.answers.proofs.Dating.{met_some, found-narrow, date-told}
use Rattle.answers.proofs.date.date_of_letter.Goals as goal
use Rattle.answers.proofs.date.date_of_letter.Goals.{After-meet, In-Some}

pub meet-requires : goal.meet-requires
meet-requires c = subst (Fine c.args.stream.now) (sym c.whole_stream.ensures) c.requires.0

-- what was met at the start of the stream
whole-met : (c : After-meet)
    → Meets c.args.stream.now (whole_stream c.args.stream.now) c.meet.result
whole-met c =
    subst (λ (r : Run). Meets c.args.stream.now r c.meet.result) c.whole_stream.ensures c.meet.ensures

-- the profile
meeting : (c : In-Some) →
    let s = c.args.stream.now in
    Meeting s (whole_stream s) c.in-Some.item.code c.in-Some.item.first c.in-Some.item.past c.in-Some.item.inner c.in-Some.item.rest
meeting c =
    let s = c.args.stream.now in
    met s (whole_stream s) (whole-met (goal.at.In-Some c).After-meet) c.in-Some.is

pub date_in-requires : goal.date_in-requires
date_in-requires c = (meeting (goal.at.date_in-requires c).In-Some).inner_fine

pub dated_as-requires : goal.dated_as-requires
dated_as-requires c = found-narrow _ c.date_in.ensures c.requires.1

pub returns-in-None : goal.returns-in-None
returns-in-None c edition zero =
    let s = c.args.stream.now in
    absurd (met_some edition s zero (met s (whole_stream s) (whole-met (goal.at.returns-in-None c).After-meet) c.in-None.is))

pub returns-in-Some : goal.returns-in-Some
returns-in-Some c edition zero =
    let s = c.args.stream.now in
    subst (DateTells edition s) (sym c.dated_as.ensures) (date-told edition s zero (meeting (goal.at.returns-in-Some c).In-Some) c.date_in.ensures)
