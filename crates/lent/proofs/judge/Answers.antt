-- `lent::judge` meets its contract: the cleared index is what the judge of a stream asks for, and what that says is what rules 9 to 15 say.
use mathlib.Core.Path.{sym, ◌∙◌, subst}
use native.Mathlib.Omega.{arith}
use Rattle.runs.proofs.Laws.{stream-fine, stream-within}
use Rattle.letters.specs.Scratch.{GivesVerdict}
use Rattle.answers.proofs.Working.{ruled-refused, ruled-letter}
use Rattle.answers.proofs.Judging.{Refusing, refused-stopped, accepted-judged}
use Rattle.lent.proofs.Cleared.{cleared}
use Rattle.lent.proofs.judge.Goals as goal
use Rattle.lent.proofs.judge.Goals.{In-Err}

pub judge_stream-requires : goal.judge_stream-requires
judge_stream-requires c =
    let s = c.args.stream.now in
    record { fine = (stream-fine s _ _ c.requires.by_index.2, stream-within s _ _ c.requires.by_index.2); lent = cleared s _ _ c.requires.stream_in_bounds.0 (c.clear.ensures.index_len_unchanged ∙ c.requires.stream_in_bounds.1) c.clear.ensures.empty }

-- what rules 9 to 15 refuse
refusing : (c : In-Err) →
    Refusing c.args.edition c.args.stream.now c.in-Err.refusal.number c.in-Err.refusal.place c.requires.by_index.1
refusing c =
    refused-stopped c.requires.by_index.2
    (subst (GivesVerdict c.args.edition c.args.stream.now c.judge_stream.new.rows c.judge_stream.new.index) c.in-Err.is c.judge_stream.ensures)

pub overflow_cast-result : goal.overflow_cast-result
overflow_cast-result c = let r = refusing (goal.at.overflow_cast-result c).In-Err in omega arith

pub overflow_cast-result-in-Err : goal.overflow_cast-result-in-Err
overflow_cast-result-in-Err c = let r = refusing (goal.at.overflow_cast-result-in-Err c).In-Err in omega arith

pub returns-in-Ok : goal.returns-in-Ok
returns-in-Ok c =
    let s = c.args.stream.now in
    let held = subst (GivesVerdict c.args.edition s c.judge_stream.new.rows c.judge_stream.new.index) c.in-Ok.is c.judge_stream.ensures in
    sym (ruled-letter c.args.edition s (accepted-judged c.requires.by_index.2 held.0).judged)

pub returns-in-Err : goal.returns-in-Err
returns-in-Err c =
    let a = c.args in
    sym (ruled-refused a.edition a.stream.now (refusing (goal.at.returns-in-Err c).In-Err).judged)
