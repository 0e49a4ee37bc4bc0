-- `scratch::list::list_by` meets its contract: the numbers are enough for a record of each element, and the list is filled from them.
use mathlib.Core.Path.{◌∙◌}
use native.Mathlib.Omega.{arith}
use borrow.Author.Tests.{leb-true}
use Rattle.answers.proofs.Listing.{listed-list}
use Rattle.answers.proofs.Working.{lists-told}
use Rattle.scratch.proofs.Arrays.{list-room}
use Rattle.scratch.proofs.list.list_by.Goals as goal

pub ask_walked-told-requires : goal.ask_walked-told-requires
ask_walked-told-requires g c =
    let a = c.args in record {
      outcome = c.requires.sized.outcome;
      enough = λ few. omega (arith, leb-true _ _ few, c.requires.sized.enough);
      roomy = list-room a.stream.now a.walked a.side _ _ c.requires.sized.enough;
    }

pub returns : goal.returns
returns g c =
    let flat = lists-told c.from-answer.ensures c.ask_walked-told.ensures in
    record { answered = flat.answered; tabled = flat.tabled; filled = c.fill.ensures ∙ listed-list c.args.list.now flat }
