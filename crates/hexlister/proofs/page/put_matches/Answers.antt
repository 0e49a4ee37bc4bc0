-- `page::put_matches` meets its contract. The loop's invariant: the lines of the records so far are put.
use Prim.Native.Nat.{ℕ, ◌*◌}
use native.Mathlib.Omega.{arith}
use mathlib.Core.Path.{◌≡◌, refl, subst, ◌∙◌}
use mathlib.Core.List.{flatten}
use lib.ListN.{take}
use Rattle.hexlister.specs.Output.{no_record, match_lines}
use Rattle.hexlister.specs.Pages.{line_room, PutsOnPage}
use Rattle.hexlister.proofs.Pages.{puts-nothing, puts-within, puts-match}
use Rattle.hexlister.proofs.page.put_matches.Goals as goal

pub loop-i-init : goal.loop-i-init
unfolding match_lines flatten
loop-i-init c = (refl, puts-nothing _ _)

pub put_match-here-requires : goal.put_match-here-requires
put_match-here-requires c =
    let p = c.loop-i.invariant.1 in
    omega (arith, p.past, p.within)

pub loop-i-preserved : goal.loop-i-preserved
loop-i-preserved c =
    let l = c.loop-i in
    let put = c.put_match-here in
    let a = c.args in
    (put.auto.page ∙ l.invariant.0, puts-match a.side a.records l.i no_record (omega arith) l.invariant.1 put.ensures)

pub shape_of-page : goal.shape_of-page
shape_of-page c = c.loop-i.invariant.0

pub returns : goal.returns
returns c =
    let l = c.loop-i in
    let a = c.args in
    let e : l.i ≡ a.count = omega arith in
    puts-within (subst (λ (k : ℕ). PutsOnPage (match_lines a.side (take k a.records)) a.page.now a.at l.here l.page (line_room * k)) e
    l.invariant.1) (omega arith)
