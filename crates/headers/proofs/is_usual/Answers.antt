-- `octets::is_usual` meets its contract: each octet that it lets through has its law in `Usual`.
use native.Mathlib.Omega.{arith}
use Rattle.headers.proofs.Usual.{good-integer, good-null, good-string, good-sequence, good-other}
use Rattle.headers.proofs.is_usual.Goals as goal

pub returns-in-2 : goal.returns-in-2
returns-in-2 c = λ e. (omega arith, omega arith, omega arith, good-integer _ _ c.in-2.is e)

pub returns-in-5 : goal.returns-in-5
returns-in-5 c = λ e. (omega arith, omega arith, omega arith, good-null _ _ c.in-5.is e)

pub returns-in-64-to-255 : goal.returns-in-64-to-255
returns-in-64-to-255 c = λ e. (omega arith, omega arith, omega arith, good-other _ _ c.in-64-to-255.if-octet-lt64-own.false e)

pub returns-in-4 : goal.returns-in-4
returns-in-4 c = λ e. (omega arith, omega arith, omega arith, good-string _ _ c.in-4.is)

pub returns-in-4-2 : goal.returns-in-4-2
returns-in-4-2 c = λ e. (omega arith, omega arith, omega arith, good-sequence _ _ c.in-4.if-octet-lt48-own.false c.in-4.if-octet-lt50-own.true)
