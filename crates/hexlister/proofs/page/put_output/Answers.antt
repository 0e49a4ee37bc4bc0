-- `page::put_output` meets its contract: by what reading ends as, the stream at the array's front is told, or the line.
use native.Mathlib.Omega.{arith}
use mathlib.Core.Path.{◌≡◌, sym, ap, ◌∙◌}
use Rattle.std.specs.Prelude.{Ok, Err}
use Rattle.lister_hex.specs.Blocks.{finished}
use Rattle.hexlister.specs.Output.{stream_lines}
use Rattle.hexlister.proofs.Pages.{puts-as, puts-written}
use Rattle.hexlister.proofs.page.put_output.Goals as goal

pub returns-in-Ok : goal.returns-in-Ok
returns-in-Ok c =
    let stream : finished c.args.state ≡ Ok c.in-Ok.length = sym c.finish.ensures ∙ c.in-Ok.is in
    rw stream (puts-written (puts-as (ap stream_lines c.part.ensures) c.put_stream.ensures) (omega arith))

pub returns-in-Err : goal.returns-in-Err
returns-in-Err c =
    let line : finished c.args.state ≡ Err c.in-Err.line = sym c.finish.ensures ∙ c.in-Err.is in
    rw line (puts-written c.put_unreadable.ensures (omega arith))
