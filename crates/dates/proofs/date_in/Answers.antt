-- `dates::date_in` meets its contract: what the pass tells, and the day that the value names, make the answer.
use mathlib.Core.Path.{ap, ◌∙◌}
use Rattle.std.proofs.lemmas.Slice.{between_is}
use Rattle.std.specs.Prelude.{Option, Some, None}
use mathlib.Core.Bool.{cond}
use mathlib.Core.List.{List}
use Prim.Native.Nat.{ℕ}
use lib.Seq.{slice}
use Rattle.calendar.specs.declared.Day.{Day}
use Rattle.calendar.specs.Calendar.{day_at, names_day}
use Rattle.dates.proofs.Answers.{answer-23, answer-24, answer-day, a-day, no-day}
use Rattle.dates.proofs.date_in.Goals as goal

-- the day that a value names, if it names one
abbrev named : List ℕ → Option Day
named value = cond (names_day value) (Some (day_at value)) None

pub returns-in_default : goal.returns-in_default
returns-in_default c = answer-23 c.args.s.now c.args.profile c.found_from.ensures c.in_default.not-Sole

pub returns-in_default-day_named : goal.returns-in_default-day_named
returns-in_default-day_named c =
    let s = c.args.s.now in
    let i = c.in-Sole in
    let value = slice i.first i.past s in
    answer-24 s c.args.profile i.first i.past i.ensures
    (no-day (names_day value) (day_at value) (c.in_default-day_named.ensures ∙ ap named (between_is s i.first i.past)))

pub returns : goal.returns
returns c =
    let s = c.args.s.now in
    let i = c.in-Sole in
    let value = slice i.first i.past s in
    answer-day s c.args.profile i.first i.past i.ensures c.in-Some.day
    (a-day (names_day value) c.in-Some.day (day_at value) (c.in-Some.ensures ∙ ap named (between_is s i.first i.past)))
