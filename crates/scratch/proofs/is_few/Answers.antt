-- `scratch::is_few` meets its contract: a stream has no more elements than headers, or it was seen whether it has more.
use mathlib.Core.Path.{sym, ◌∙◌}
use mathlib.Core.Bool.{false≢true}
use native.Mathlib.Omega.{arith}
use borrow.Author.Tests.{ltb-false, not-true}
use Rattle.runs.specs.Runs.{items_of, whole_stream, tops}
use Rattle.runs.proofs.Laws.{stream-fine}
use Rattle.scratch.proofs.Arrays.{no-more-rows}
use Rattle.scratch.proofs.is_few.Goals as goal

pub returns-then-headers-le-FEW : goal.returns-then-headers-le-FEW
returns-then-headers-le-FEW c = λ yes. omega (arith, no-more-rows _ _ _ c.requires)

pub returns-then-headers-gt-MANY_HEADERS : goal.returns-then-headers-gt-MANY_HEADERS
returns-then-headers-gt-MANY_HEADERS c = λ yes. absurd (false≢true yes)

pub has_more-requires : goal.has_more-requires
has_more-requires c = stream-fine _ _ _ c.requires

pub returns : goal.returns
returns c =
    let s = c.args.stream.now in
    λ yes. omega (arith, ltb-false 512 (tops (items_of s (whole_stream s))) (sym c.has_more.ensures ∙ not-true c.has_more.result yes))
