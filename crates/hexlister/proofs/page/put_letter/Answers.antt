-- `page::put_letter` meets its contract: the first line, the lines of the rows that the check filled, and those of both sides are put one after
-- the other.
use native.Mathlib.Omega.{arith}
use Rattle.hexlister.specs.Output.{accepted_lines}
use Rattle.hexlister.proofs.Pages.{puts-as, puts-join, puts-within}
use Rattle.hexlister.proofs.Letters.{checks-all}
use Rattle.hexlister.proofs.page.put_letter.Goals as goal

pub put_elements-elements-requires : goal.put_elements-elements-requires
put_elements-elements-requires c =
    let a = c.args in
    let all = checks-all a.stream.now c.requires.1 c.requires.2 in
    let head = c.put_accepted-head in
    let put = head.ensures in
    (all.few, omega (arith, all.few, all.full), omega (arith, put.past, put.within, head.auto.page, c.requires.0))

pub put_sides-requires : goal.put_sides-requires
put_sides-requires c =
    let a = c.args in
    let all = checks-all a.stream.now c.requires.1 c.requires.2 in
    let head = c.put_accepted-head in
    let elements = c.put_elements-elements in
    let one = head.ensures in
    let two = elements.ensures in
    (omega (arith, one.past, one.within, two.past, two.within, head.auto.page, elements.auto.page, c.requires.0), all.full, all.accepted)

pub returns : goal.returns
unfolding accepted_lines
returns c =
    let a = c.args in
    let all = checks-all a.stream.now c.requires.1 c.requires.2 in
    puts-within (puts-join (puts-join c.put_accepted-head.ensures (puts-as all.lines c.put_elements-elements.ensures)) c.put_sides.ensures)
    (omega arith)
