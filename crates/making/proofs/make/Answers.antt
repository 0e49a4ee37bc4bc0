-- `making::make` meets its contract: a refusal of an entry, 17, 18, or the letter is written.
use mathlib.Core.Path.{sym, ◌∙◌}
use native.Mathlib.Omega.{arith}
use Rattle.making.proofs.Lent.{all-ordered}
use Rattle.making.proofs.Making.{make-refused, make-fits, make-lie, make-long, make-within, make-short, make-length, make-written}
use Rattle.making.proofs.make.Goals as goal

pub returns-in-Err : goal.returns-in-Err
returns-in-Err c = make-refused c.args.buffer.now c.args.numbers.now c.args.out.now c.in-Err.refused (sym c.in-Err.is ∙ c.judge.ensures)

pub measure-size-requires : goal.measure-size-requires
measure-size-requires c =
    let buffer = c.args.buffer.now in
    let numbers = c.args.numbers.now in
    let out = c.args.out.now in
    let fits = make-fits buffer numbers out c.judge.result c.judge.ensures c.in_default.not-Err in
    all-ordered buffer numbers (make-lie buffer numbers out fits)

pub returns-then-size-gt-STREAM_LIMIT : goal.returns-then-size-gt-STREAM_LIMIT
returns-then-size-gt-STREAM_LIMIT c =
    let buffer = c.args.buffer.now in
    let numbers = c.args.numbers.now in
    let out = c.args.out.now in
    let fits = make-fits buffer numbers out c.judge.result c.judge.ensures c.in_default.not-Err in
    make-long buffer numbers out fits c.measure-size.result c.measure-size.ensures (omega arith)

pub returns-then-out-size : goal.returns-then-out-size
returns-then-out-size c =
    let measure = c.measure-size in
    let buffer = c.args.buffer.now in
    let numbers = c.args.numbers.now in
    let out = c.args.out.now in
    let fits = make-fits buffer numbers out c.judge.result c.judge.ensures c.in_default.not-Err in
    let within = make-within buffer numbers out fits measure.result measure.ensures (omega arith) in
    make-short buffer numbers out fits (omega (arith, within)) (omega (arith, within))

pub put_letter-length-requires : goal.put_letter-length-requires
put_letter-length-requires c =
    let measure = c.measure-size in
    let buffer = c.args.buffer.now in
    let numbers = c.args.numbers.now in
    let out = c.args.out.now in
    let fits = make-fits buffer numbers out c.judge.result c.judge.ensures c.in_default.not-Err in
    let within = make-within buffer numbers out fits measure.result measure.ensures (omega arith) in
    (make-lie buffer numbers out fits, omega (arith, within), omega (arith, within))

pub overflow_cast-result : goal.overflow_cast-result
overflow_cast-result c =
    let measure = c.measure-size in
    let buffer = c.args.buffer.now in
    let numbers = c.args.numbers.now in
    let out = c.args.out.now in
    let fits = make-fits buffer numbers out c.judge.result c.judge.ensures c.in_default.not-Err in
    let within = make-within buffer numbers out fits measure.result measure.ensures (omega arith) in
    omega (arith, within, make-length buffer numbers out fits (omega (arith, within)) c.put_letter-length.result c.put_letter-length.new.out c.put_letter-length.ensures)

pub returns : goal.returns
returns c =
    let measure = c.measure-size in
    let buffer = c.args.buffer.now in
    let numbers = c.args.numbers.now in
    let out = c.args.out.now in
    let fits = make-fits buffer numbers out c.judge.result c.judge.ensures c.in_default.not-Err in
    let within = make-within buffer numbers out fits measure.result measure.ensures (omega arith) in
    make-written buffer numbers out fits (omega (arith, within)) (omega (arith, within)) c.put_letter-length.result c.put_letter-length.new.out c.put_letter-length.ensures
