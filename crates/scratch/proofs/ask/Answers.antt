-- `scratch::ask` meets its contract: the stream is walked, its size is told, and what a question does not ask for needs no room.
use mathlib.Core.Path.{sym}
use Rattle.scratch.proofs.Arrays.{with-room, few-enough}
use Rattle.scratch.proofs.ask.Goals as goal

pub needs_few-few-requires : goal.needs_few-few-requires
needs_few-few-requires c = sym c.walk-walked.ensures

pub ask_walked-requires : goal.ask_walked-requires
ask_walked-requires c = record {
  outcome = sym c.walk-walked.ensures;
  enough = λ few. few-enough few c.needs_few-few.ensures;
  roomy = with-room c.args.stream.now c.walk-walked.result c.args.question _ c.requires;
}
