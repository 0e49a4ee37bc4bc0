-- `scratch::side_sources::sources_by` meets its contract: the numbers are enough for a match of each element.
use native.Mathlib.Omega.{arith}
use borrow.Author.Tests.{leb-true}
use Rattle.answers.proofs.Working.{sources-told}
use Rattle.scratch.proofs.Arrays.{sources-room}
use Rattle.scratch.proofs.side_sources.sources_by.Goals as goal

pub ask_walked-told-requires : goal.ask_walked-told-requires
ask_walked-told-requires g c =
    let a = c.args in record {
      outcome = c.requires.sized.outcome;
      enough = λ few. omega (arith, leb-true _ _ few, c.requires.sized.enough);
      roomy = sources-room a.stream.now a.walked a.side _ c.requires.sized.enough;
    }

pub returns : goal.returns
returns g c = sources-told c.from.ensures c.ask_walked-told.ensures
