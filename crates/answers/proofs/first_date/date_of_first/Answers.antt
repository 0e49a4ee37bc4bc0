-- `answers::first_date::date_of_first` meets its contract: the note is added to the answer.
use mathlib.Core.Path.{ap}
use Rattle.answers.specs.FirstDates.{with_unread, first_dated}
use Rattle.answers.proofs.first_date.date_of_first.Goals as goal

pub returns : goal.returns
unfolding first_dated
returns c = ap with_unread c.first_numbers-told.ensures
