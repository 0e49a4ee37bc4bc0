-- `answers::text::put_texts` meets its contract. The loop's invariant is `PutSoFar`.
use Rattle.text_lines.proofs.Putting.{PutSoFar}
use Rattle.answers.specs.Text.{text_in}
use Rattle.answers.proofs.text.put_texts.Given as goal

abbrev pub invariant-loop-k : goal.invariant-loop-k
invariant-loop-k l = PutSoFar (text_in l.edition l.stream) l.initial.numbers l.lines l.initial.out l.k l.done l.numbers l.out
