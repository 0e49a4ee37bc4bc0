-- `measures::is_integer` meets its contract, test by test.
use mathlib.Core.Path.{refl, sym}
use native.Mathlib.Omega.{arith}
use Rattle.measures.proofs.Octets.{no_octets, too_many, one-octet, all-zeros, not_zeros}
use Rattle.measures.proofs.is_integer.Goals as goal

pub returns-then-n-eq0 : goal.returns-then-n-eq0
returns-then-n-eq0 c = sym (no_octets c.args.v.now c.if-n-eq0.true)

pub returns-then-n-gt4 : goal.returns-then-n-gt4
returns-then-n-gt4 c = sym (too_many c.args.v.now c.if-n-gt4.true)

pub returns-then-n-eq1 : goal.returns-then-n-eq1
returns-then-n-eq1 c = sym (one-octet c.args.v.now c.if-n-eq1.true)

pub returns-then-nine-eq0 : goal.returns-then-nine-eq0
returns-then-nine-eq0 c = all-zeros c.args.v.now (omega arith) (omega arith) _ refl c.if-nine-eq0.true

pub returns : goal.returns
returns c = not_zeros c.args.v.now (omega arith) (omega arith) _ refl c.if-nine-eq0.false
