-- `pm1::count_pages` meets its contract: a row is counted if it is a page, and those after it are left.
use mathlib.Core.Path.{◌≡◌, ap, sym, ◌∙◌}
use mathlib.Core.Bool.{true, false}
use Prim.Native.Nat.{◌+◌, ◌-◌}
use native.Mathlib.Omega.{arith}
use Rattle.pm1.specs.ByTable.{pages_among}
use Rattle.pm1.proofs.Counting.{among_next, among_none}
use Rattle.pm1.proofs.count_pages.Goals as goal
use Rattle.pm1.proofs.count_pages.Goals.{then-is_page, else-is_page}

pub loop-j-init : goal.loop-j-init
loop-j-init c =
    let a = c.args in
    let z : a.elements - 0 ≡ a.elements = omega arith in
    let same : pages_among a.table.now 0 (a.elements - 0) ≡ pages_among a.table.now 0 a.elements = ap (pages_among a.table.now 0) z in
    record { few = omega arith; counted = omega arith }

pub is_page-requires : goal.is_page-requires
is_page-requires c = (omega arith, omega arith)

pub loop-j-preserved : goal.loop-j-preserved
loop-j-preserved c =
    let a = c.args in
    let l = c.loop-j in
    let told = c.is_page.ensures in
    elim c.if-is_page.branch [
      | then-is_page w ↦ record {
        few = omega (arith, w.count-is);
        counted = rw w.count-is (among_next a.table.now l.j a.elements l.count _ true (sym w.if-is_page.true ∙ told) (omega arith) l.invariant.counted);
      }
      | else-is_page w ↦
          let same : l.count + 0 ≡ l.count = omega arith in
          record {
            few = omega (arith, w.count-is);
            counted = rw w.count-is (rw same at (among_next a.table.now l.j a.elements l.count _ false (sym w.if-is_page.false ∙ told) (omega arith) l.invariant.counted));
          }
    ]

pub returns : goal.returns
returns c =
    let a = c.args in
    let l = c.loop-j in
    (omega (arith, l.invariant.counted, among_none a.table.now l.j a.elements (omega arith)), omega arith)
