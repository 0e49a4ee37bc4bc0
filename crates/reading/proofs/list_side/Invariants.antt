-- `reading::list_side` meets its contract: the elements are taken in turn.
use Rattle.reading.proofs.Turning.{Turning}
use Rattle.reading.proofs.list_side.Given as goal

abbrev pub invariant-loop-element : goal.invariant-loop-element
invariant-loop-element l = Turning l.side l.s l.rows l.n l.initial.flat l.flat l.element l.count
