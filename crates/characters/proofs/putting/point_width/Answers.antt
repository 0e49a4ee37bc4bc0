-- `characters::putting::point_width` meets its contract: one, two or three octets by the size of the point.
use native.Mathlib.Omega.{arith}
use mathlib.Core.Path.{sym}
use Rattle.characters.proofs.Utf8.{one-long, two-long, three-long}
use Rattle.characters.proofs.putting.point_width.Goals as goal

pub returns-then-p-lt128 : goal.returns-then-p-lt128
returns-then-p-lt128 c = (sym (one-long _ c.if-p-lt128.true), omega arith)

pub returns-then-p-lt2048 : goal.returns-then-p-lt2048
returns-then-p-lt2048 c = (sym (two-long _ c.if-p-lt128.false c.if-p-lt2048.true), omega arith)

pub returns : goal.returns
returns c = (sym (three-long _ c.if-p-lt2048.false (omega arith)), omega arith)
