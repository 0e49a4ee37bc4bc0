-- `fronts::inside_first` meets its contract: the run of the first item alone is fine, and has that item and no other.
use mathlib.Core.Path.{sym, ◌∙◌}
use native.Mathlib.Omega.{arith}
use lib.ListN.{length}
use Rattle.octets.specs.Walk.{deepest}
use Rattle.fronts.proofs.Alone.{alone-fine, alone-items, one-some}
use Rattle.fronts.proofs.Firsts.{first-met}
use Rattle.fronts.proofs.inside_first.Goals as goal

pub meet-requires : goal.meet-requires
meet-requires c =
    let a = c.args in
    alone-fine deepest a.s.now 0 (length a.s.now) a.next c.requires.0 c.requires.1 (omega arith)

pub unreachable-requires : goal.unreachable-requires
unreachable-requires c =
    let a = c.args in
    let p = c.requires in
    let n = length a.s.now in
    one-some deepest a.s.now 0 n a.next p.0 p.1 (sym (alone-items deepest a.s.now 0 n a.next p.0 p.1) ∙ c.in_default.ensures)

pub returns : goal.returns
returns c = first-met c.args.s.now c.args.next c.requires.0 c.requires.1 c.in-Some.ensures
