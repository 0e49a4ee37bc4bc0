-- `page::put_side` meets its contract: the list has all matches, since no more of them than elements, and they are put.
use native.Mathlib.Omega.{arith}
use mathlib.Core.Path.{ap}
use Rattle.hexlister.specs.Output.{match_lines}
use Rattle.hexlister.proofs.Pages.{puts-as}
use Rattle.hexlister.proofs.Letters.{lists-all}
use Rattle.hexlister.proofs.page.put_side.Goals as goal

pub put_matches-requires : goal.put_matches-requires
put_matches-requires c =
    let a = c.args in
    let all = lists-all a.side a.stream.now a.table.now c.requires.2 c.requires.1 c.list_side-found.ensures in
    (all.few, omega arith)

pub returns : goal.returns
returns c =
    let a = c.args in
    let all = lists-all a.side a.stream.now a.table.now c.requires.2 c.requires.1 c.list_side-found.ensures in
    puts-as (ap (match_lines a.side) all.first) c.put_matches.ensures
