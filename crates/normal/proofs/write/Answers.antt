-- `normal::write` meets its contract: its test is the first of `answer_of`, and within the limit the two writers give the same.
use mathlib.Core.Path.{subst}
use native.Mathlib.Omega.{arith}
use Rattle.normal.specs.Normal.{normal_form}
use Rattle.normal.specs.Writes.{Answer, GivesAnswer}
use Rattle.normal.proofs.Answers.{stream-measured, gives-17, same-within}
use Rattle.normal.proofs.write.Goals as goal

pub returns-then-m-gt-STREAM_LIMIT : goal.returns-then-m-gt-STREAM_LIMIT
returns-then-m-gt-STREAM_LIMIT c =
    let a = c.args in
    let (e, own) = stream-measured a.s.now c.measure-m.result c.measure-m.ensures in
    gives-17 (normal_form a.s.now) a.out.now (omega arith)

pub returns : goal.returns
returns c =
    let a = c.args in
    let form = normal_form a.s.now in
    let (e, own) = stream-measured a.s.now c.measure-m.result c.measure-m.ensures in
    subst (λ (x : Answer). GivesAnswer x form a.out.now c.write_measured.result c.write_measured.new.out) (same-within form a.out.now (omega arith))
    c.write_measured.ensures
