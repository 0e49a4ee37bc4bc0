-- `contents::part_with` meets its contract: the tests that it makes are those of the laws of an opening.
use native.Mathlib.Omega.{arith}
use Rattle.contents.proofs.Parts.{one_holds, two-holds, neither-holds}
use Rattle.contents.proofs.part_with.Goals as goal

pub returns-then-o-octet : goal.returns-then-o-octet
returns-then-o-octet c s r k l = one_holds c.args.octet c.args.o s r c.if-o-gt0.true c.if-o-octet.true k

pub returns-then-o-octet-2 : goal.returns-then-o-octet-2
returns-then-o-octet-2 c s r k l =
    two-holds c.args.octet c.args.o s r c.if-o-gt1.true (λ e. omega arith) c.if-o-octet-2.true k

pub returns : goal.returns
returns c s r = neither-holds c.args.octet c.args.o s r (λ some e. omega arith) (λ more e. omega arith)
