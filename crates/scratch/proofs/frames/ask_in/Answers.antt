-- `scratch::frames::ask_in` meets its contract: the arrays are what the judge asks for, what it refuses is refused, and of a letter the question's
-- work is done.
use mathlib.Core.Path.{refl}
use native.Mathlib.Omega.{arith}
use Rattle.answers.proofs.Judging.{refused-stopped}
use Rattle.answers.proofs.Working.{as-asked, leaves-refused}
use Rattle.scratch.proofs.Arrays.{walked-fine}
use Rattle.scratch.proofs.frames.ask_in.Goals as goal

pub judge_stream-requires : goal.judge_stream-requires
judge_stream-requires g c = record { fine = walked-fine c.args.stream.now _ _ c.requires.stream_value; lent = c.requires.lent }

pub overflow_cast-refusal : goal.overflow_cast-refusal
overflow_cast-refusal g c = let r = refused-stopped c.requires.stream_value c.in-Err.ensures in omega arith

pub overflow_cast-refusal-in-Err : goal.overflow_cast-refusal-in-Err
overflow_cast-refusal-in-Err g c = let r = refused-stopped c.requires.stream_value c.in-Err.ensures in omega arith

pub work-requires : goal.work-requires
work-requires g c =
    let held = c.in-Ok.ensures in
    record { s_value = c.requires.stream_value; letter_rows = held.0; both_filed = held.1; roomy = c.requires.roomy }

pub returns-in-Err : goal.returns-in-Err
returns-in-Err g c =
    let r = refused-stopped c.requires.stream_value c.in-Err.ensures in
    as-asked refl c.tell_refused.ensures
    (leaves-refused c.args.edition c.args.stream.now c.args.table.now c.args.flat.now c.args.out.now
    c.args.question _ _ _ r.judged)
