-- `page::put_elements` meets its contract. The loop's invariant: the lines of the rows so far are put.
use Prim.Native.Nat.{ℕ, ◌*◌}
use native.Mathlib.Omega.{arith}
use mathlib.Core.Path.{◌≡◌, refl, subst, ◌∙◌}
use Rattle.hexlister.specs.Pages.{line_room, PutsOnPage, row_lines}
use Rattle.hexlister.proofs.Pages.{puts-nothing, puts-within, puts-row}
use Rattle.hexlister.proofs.page.put_elements.Goals as goal

pub loop-i-init : goal.loop-i-init
unfolding row_lines
loop-i-init c = (refl, puts-nothing _ _)

pub put_element-here-requires : goal.put_element-here-requires
put_element-here-requires c =
    let p = c.loop-i.invariant.1 in
    (omega arith, omega arith, omega (arith, p.past, p.within))

pub loop-i-preserved : goal.loop-i-preserved
loop-i-preserved c =
    let l = c.loop-i in
    let put = c.put_element-here in
    (put.auto.page ∙ l.invariant.0, puts-row c.args.table.now l.i l.invariant.1 put.ensures)

pub shape_of-page : goal.shape_of-page
shape_of-page c = c.loop-i.invariant.0

pub returns : goal.returns
returns c =
    let l = c.loop-i in
    let a = c.args in
    let e : l.i ≡ a.count = omega arith in
    puts-within (subst (λ (k : ℕ). PutsOnPage (row_lines a.table.now 0 k) a.page.now a.at l.here l.page (line_room * k)) e
    l.invariant.1) (omega arith)
