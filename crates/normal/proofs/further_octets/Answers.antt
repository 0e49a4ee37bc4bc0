-- `normal::further_octets` meets its contract: each test of the zeros is a test of the number.
use borrow.Author.Tests.{lt-ltb, le-ltb}
use native.Mathlib.Omega.{arith}
use Rattle.normal.proofs.Lengths.{zeros-lt, zeros-ge}
use Rattle.normal.proofs.further_octets.Goals as goal

pub returns-then-zeros-ge25 : goal.returns-then-zeros-ge25
returns-then-zeros-ge25 c =
    let n = c.args.len in
    let f = c.ranges.len.fits in
    simp (lt-ltb n 0x80 (zeros-lt n 7 f (omega arith)))

pub returns-then-zeros-ge24 : goal.returns-then-zeros-ge24
returns-then-zeros-ge24 c =
    let n = c.args.len in
    let f = c.ranges.len.fits in
    simp (le-ltb n 0x80 (zeros-ge n 7 f (omega arith)), lt-ltb n 0x100 (zeros-lt n 8 f (omega arith)))

pub returns-then-zeros-ge16 : goal.returns-then-zeros-ge16
returns-then-zeros-ge16 c =
    let n = c.args.len in
    let f = c.ranges.len.fits in
    let a = zeros-ge n 8 f (omega arith) in
    simp (le-ltb n 0x80 (omega arith), le-ltb n 0x100 a, lt-ltb n 0x10000 (zeros-lt n 16 f (omega arith)))

pub returns-then-zeros-ge8 : goal.returns-then-zeros-ge8
returns-then-zeros-ge8 c =
    let n = c.args.len in
    let f = c.ranges.len.fits in
    let a = zeros-ge n 16 f (omega arith) in
    simp (le-ltb n 0x80 (omega arith), le-ltb n 0x100 (omega arith), le-ltb n 0x10000 a, lt-ltb n 0x1000000 (zeros-lt n 24 f (omega arith)))

pub returns : goal.returns
returns c =
    let n = c.args.len in
    let f = c.ranges.len.fits in
    let a = zeros-ge n 24 f (omega arith) in
    simp (le-ltb n 0x80 (omega arith), le-ltb n 0x100 (omega arith), le-ltb n 0x10000 (omega arith), le-ltb n 0x1000000 a)
