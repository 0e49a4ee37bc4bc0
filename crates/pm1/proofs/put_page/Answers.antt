-- `pm1::put_page` meets its contract: two stores put one record.
use native.Mathlib.Omega.{arith}
use native.Mathlib.Numerals.{add-one}
use lib.ListN.{length-set}
use Prim.Native.Nat.{◌*◌}
use Rattle.pm1.proofs.put_page.Goals as goal

pub bounds-list-at-2 : goal.bounds-list-at-2
bounds-list-at-2 c = simp length-set (omega arith)

pub returns : goal.returns
returns c = rw (add-one (2 * c.args.k), c.into.ensures)
