-- `portions::keep_bounds` meets its contract: two stores are a pair more, and from 64 on nothing is asked.
use native.Mathlib.Omega.{arith}
use lib.ListN.{length-set}
use Rattle.portions.proofs.Pairs.{pair-stored}
use Rattle.portions.proofs.keep_bounds.Goals as goal

pub bounds-bounds-k-then-k-lt-MOST_PORTIONS : goal.bounds-bounds-k-then-k-lt-MOST_PORTIONS
bounds-bounds-k-then-k-lt-MOST_PORTIONS c = simp length-set (omega arith)

pub returns-then-k-lt-MOST_PORTIONS : goal.returns-then-k-lt-MOST_PORTIONS
returns-then-k-lt-MOST_PORTIONS c =
    let a = c.args in λ _. pair-stored a.bounds.now a.k a.v.first a.v.past (omega arith)

pub returns-else-k-lt-MOST_PORTIONS : goal.returns-else-k-lt-MOST_PORTIONS
returns-else-k-lt-MOST_PORTIONS c = λ few. absurd (omega arith)
